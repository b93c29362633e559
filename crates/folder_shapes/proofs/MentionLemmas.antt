-- Indexes that lines name, put together.
use Rattle.std.proofs.Common.{◌≡◌, ℕ, List, [], ◌∷◌, ◌++◌, Option, refl, sym, ap, ◌∙◌}
use Rattle.prg_parser.specs.Lines.{Joined}
use Rattle.folder_shapes.specs.Programs.{Named, Used, named_by_line, named_from, used_after, with_all_named, with_named}

all_behind : (a b ms : List Named) → with_all_named (a ++ b) ms ≡ with_all_named b (with_all_named a ms)
all_behind [] b ms = refl
all_behind (m ∷ a) b ms = all_behind a b (with_named m ms)

-- The first of the lines that are left is done.
pub goes_on : (file : ℕ) (u v : Option Used) (line : Joined) (all others : List Joined) (before after wanted : List Named)
    → all ≡ line ∷ others → v ≡ used_after line.text u
    → after ≡ with_all_named (named_by_line file line u) before
    → with_all_named (named_from file u all) before ≡ wanted
    → with_all_named (named_from file v others) after ≡ wanted
goes_on file u v line all others before after wanted first used named goal =
    rw (used, named)
    (sym (all_behind (named_by_line file line u) (named_from file (used_after line.text u) others) before)
    ∙ ap (λ (ls : List Joined). with_all_named (named_from file u ls) before) (sym first) ∙ goal)

-- no line is left
pub done : (file : ℕ) (u : Option Used) (all : List Joined) (after wanted : List Named) → all ≡ []
    → with_all_named (named_from file u all) after ≡ wanted → after ≡ wanted
done file u all after wanted none goal =
    sym (ap (λ (ls : List Joined). with_all_named (named_from file u ls) after) none) ∙ goal
