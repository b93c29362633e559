use Rattle.std.proofs.Common.{◌≡◌, ◌∙◌, Bool, true, false, cond, Some, None, List, ℕ, Option, sym, ap}
use Rattle.std.specs.List.{starts_with}
use Rattle.std.specs.Prelude.{nat_eq}
use Rattle.key_lists.specs.Pairs.{Pair}
use Rattle.row_moves.specs.Seeking.{begun_or_none}
use Rattle.row_moves.proofs.Seeking.{starts_is}
use Rattle.row_moves.proofs.key_search.if_begun.Goals as goal

tested : (start : List ℕ) (found : Option Pair) (entry : Pair) (key : List ℕ) (r b : Bool) → found ≡ Some entry
    → key ≡ entry.0 → r ≡ starts_with nat_eq key start → r ≡ b → cond b (Some entry) None ≡ begun_or_none start found
tested start found entry key r b is same value test =
    ap (λ t. cond t (Some entry) None)
    (sym test ∙ value ∙ ap (λ k. starts_with nat_eq k start) same ∙ starts_is start entry.0)
    ∙ ap (begun_or_none start) (sym is)

pub returns-then-starts_with : goal.returns-then-starts_with
returns-then-starts_with c = tested c.args.start.now c.args.found c.in_ok-entry.entry c.key.result.now
    c.starts_with.result true c.in_ok-entry.was c.key.ensures.value c.starts_with.ensures.value c.if-starts_with.true

pub returns : goal.returns
returns c = tested c.args.start.now c.args.found c.in_ok-entry.entry c.key.result.now c.starts_with.result false
    c.in_ok-entry.was c.key.ensures.value c.starts_with.ensures.value c.if-starts_with.false
