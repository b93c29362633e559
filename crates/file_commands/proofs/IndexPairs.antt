-- A walk over the pairs of an index, one after another.
use Rattle.std.proofs.Common.{◌≡◌, ℕ, List, [], ◌∷◌, ◌++◌, Option, Some, None, refl, sym, ap, ◌∙◌, append_assoc}
use Rattle.std.specs.List.{flat_map}
use Rattle.key_lists.specs.Order.{above, first}
use Rattle.key_lists.specs.Pairs.{Pair, is_before}
use Rattle.key_lists.specs.Laws.{MeetsEach}
use Rattle.file_commands.specs.Lines.{pair_line}

-- the pairs that the walk has still to meet
abbrev pub left : Option Pair → List Pair → List Pair
left None pairs = []
left (Some q) pairs = q ∷ above is_before q pairs

empty_of : (pairs : List Pair) → first pairs ≡ None → pairs ≡ []
empty_of [] e = refl
empty_of (p ∷ pairs) e = absurd cc

pub begins : (pairs : List Pair) (found : Option Pair) → MeetsEach pairs → found ≡ first pairs
    → left found pairs ≡ pairs
begins pairs None m e = sym (empty_of pairs (sym e))
begins pairs (Some q) m e = sym (m.least q (sym e))

pub goes_on : (pairs : List Pair) (p : Pair) (found : Option Pair) → MeetsEach pairs
    → found ≡ first (above is_before p pairs) → left found pairs ≡ above is_before p pairs
goes_on pairs p None m e = sym (empty_of (above is_before p pairs) (sym e))
goes_on pairs p (Some q) m e = sym (m.next p q (sym e))

-- what was found behind a pair that is given by its parts
pub found_of : (key : List ℕ) (number : ℕ) (p : Pair) (now pairs : List Pair) (found : Option Pair) → key ≡ p.0
    → number ≡ p.1 → now ≡ pairs → found ≡ first (above is_before (key, number) now)
    → found ≡ first (above is_before p pairs)
found_of key number p now pairs found k n e f = f ∙ rw (k, n, e) refl

-- a line more is written
pub written : (out whole line : List ℕ) (p : Pair) (behind : List Pair) → line ≡ pair_line p
    → out ++ flat_map pair_line (p ∷ behind) ≡ whole → (new : List ℕ) → new ≡ out ++ line
    → new ++ flat_map pair_line behind ≡ whole
written out whole line p behind l e new n =
    ap (λ (x : List ℕ). x ++ flat_map pair_line behind) (n ∙ ap (λ (x : List ℕ). out ++ x) l)
    ∙ append_assoc out (pair_line p) (flat_map pair_line behind) ∙ e
