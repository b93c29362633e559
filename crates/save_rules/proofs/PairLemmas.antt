-- A walk along two indexes at once.
use Rattle.std.proofs.Common.{◌≡◌, ◌↔◌, ℕ, List, [], ◌∷◌, Option, Some, None, refl, sym, ap, ◌∙◌}
use Rattle.key_lists.specs.Laws.{MeetsEach}
use Rattle.key_lists.specs.Order.{above, first}
use Rattle.key_lists.specs.Pairs.{Pair, is_before}

-- the pairs that a walk has still to meet
abbrev pub left : Option Pair → List Pair → List Pair
left None pairs = []
left (Some q) pairs = q ∷ above is_before q pairs

empty_of : (pairs : List Pair) → first pairs ≡ None → pairs ≡ []
empty_of [] e = refl
empty_of (p ∷ pairs) e = absurd cc

pub begins : (pairs : List Pair) (found : Option Pair) → MeetsEach pairs → found ≡ first pairs
    → left found pairs ≡ pairs
begins pairs None m e = sym (empty_of pairs (sym e))
begins pairs (Some q) m e = sym (m.least q (sym e))

pub goes_on : (pairs : List Pair) (p : Pair) (found : Option Pair) → MeetsEach pairs
    → found ≡ first (above is_before p pairs) → left found pairs ≡ above is_before p pairs
goes_on pairs p None m e = sym (empty_of (above is_before p pairs) (sym e))
goes_on pairs p (Some q) m e = sym (m.next p q (sym e))

-- what was found behind a pair that is given by its parts
pub found_of : (key : List ℕ) (number : ℕ) (p : Pair) (now pairs : List Pair) (found : Option Pair) → key ≡ p.0
    → number ≡ p.1 → now ≡ pairs → found ≡ first (above is_before (key, number) now)
    → found ≡ first (above is_before p pairs)
found_of key number p now pairs found k n e f = f ∙ rw (k, n, e) refl

-- the lists are one if what is left of them is, behind a pair of both
pub both_go_on : (one other : List Pair) (p q : Pair) (next partner : Option Pair) → p ≡ q
    → (one ≡ other) ↔ (left (Some p) one ≡ left (Some q) other) → left next one ≡ above is_before p one
    → left partner other ≡ above is_before p other → (one ≡ other) ↔ (left next one ≡ left partner other)
both_go_on one other p q next partner same before a b = (
  λ alike.
      let whole : p ∷ above is_before p one ≡ q ∷ above is_before q other = before.0 alike in
      let rest : above is_before p one ≡ above is_before q other = cc in
      a ∙ rest ∙ ap (λ (x : Pair). above is_before x other) (sym same) ∙ sym b,
  λ alike.
      let rest : above is_before p one ≡ above is_before p other = sym a ∙ alike ∙ b in
      before.1 (ap (λ (ps : List Pair). p ∷ ps) rest ∙ ap (λ (x : Pair). x ∷ above is_before x other) same),
)
