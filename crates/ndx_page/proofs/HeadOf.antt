-- Bytes begin with one page 0 at most.
use Rattle.std.proofs.Common.{◌≡◌, ◌∙◌, ℕ, List, ◌∷◌, ◌++◌, length, Some, position, ◌==◌, Contains, sym, ap}
use Rattle.arrayvec.specs.ArrayVec.{ArrayVec}
use Rattle.ndx_page.specs.HeadLayout.{HeadsAreTold}
use Rattle.ndx_page.proofs.HeadLemmas.{same_heads}
use Rattle.ndx_page.proofs.TextLemmas.{zero_behind, ended_once}

-- two texts that a zero byte ends in the same bytes are the same
one_text : (bytes text rest other more : List ℕ) → (Contains text 0 → ⊥) → (Contains other 0 → ⊥)
    → bytes ≡ text ++ 0 ∷ rest → bytes ≡ other ++ 0 ∷ more → text ≡ other
one_text bytes text rest other more none no_other is is_other =
    let found : position (λ byte. byte == 0) bytes ≡ Some (length other) =
    ap (position (λ byte. byte == 0)) is_other ∙ zero_behind other more no_other in
    sym (ended_once text rest bytes (length other) none is found) ∙ ended_once other more bytes (length other) no_other
    is_other found

pub heads_told : HeadsAreTold
heads_told bytes a b p q =
    let same : a.text ≡ b.text = ap (λ (items : List ℕ). let t : ArrayVec ℕ = record { items = items } in t)
    (one_text _ a.text.items p.text.0 b.text.items q.text.0 a.no_zero b.no_zero p.text.1 q.text.1) in
    same_heads a b (sym p.root ∙ q.root) (sym p.pages ∙ q.pages) (sym p.key_length ∙ q.key_length) same
