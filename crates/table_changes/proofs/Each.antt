-- A list that grows: what holds of each element by its place.
use Rattle.std.proofs.Common.{◌≡◌, ◌+◌, ◌∙◌, ℕ, Bool, zero, suc, List, [], ◌∷◌, ◌++◌, length}
use Rattle.std.proofs.Common.{Some, ap, sym, subst, arith}
use Rattle.std.proofs.lemmas.List.FromFn.{map-range_with_len_more}
use Rattle.std.specs.Prelude.{slice_get, MatchOption, IfSome, ⊤}
use Rattle.table_changes.specs.Rows.{fresh_of, is_fresh_in}
use Rattle.work_area.specs.Areas.{StoreState}

pub each_more : {x : Type 0} (P : ℕ → x → Type 0) (xs : List x) (z : x)
    → ((t : ℕ) (y : x) → slice_get xs t ≡ Some y → P t y) → P (length xs) z → (t : ℕ) (y : x)
    → slice_get (xs ++ z ∷ []) t ≡ Some y → P t y
each_more P [] z h p zero y e = subst (λ o. IfSome o (P 0)) e p
each_more P [] z h p (suc t) y e = absurd (subst (λ o. MatchOption o ⊤ (λ _. ⊥)) e tt)
each_more P (w ∷ xs) z h p zero y e = h 0 y e
each_more P (w ∷ xs) z h p (suc t) y e = each_more (λ t. P (suc t)) xs z (λ t. h (suc t)) p t y e

pub fresh_more : (s : StoreState) (n : ℕ) (fresh : List Bool) (b : Bool) → fresh ≡ fresh_of s n → b ≡ is_fresh_in s n
    → fresh ++ b ∷ [] ≡ fresh_of s (n + 1)
fresh_more s n fresh b e f = ap (λ front. front ++ b ∷ []) e ∙ ap (λ x. fresh_of s n ++ x ∷ []) f
    ∙ sym (map-range_with_len_more (is_fresh_in s) 0 n n (omega arith))
