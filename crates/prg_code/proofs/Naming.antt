-- Names that are copied, and names that are handed on.
use Rattle.std.proofs.Common.{◌≡◌, ℕ, Bool, true, cond, List, [], ◌∷◌, map, ◌∙◌}
use Rattle.std.specs.List.{AllZip}
use Rattle.std.specs.Map.Calls.{RetainsPairs}
use Rattle.std.proofs.lemmas.List.Elements.{same_from_all_zip}
use Rattle.arrayvec.specs.ArrayVec.{ArrayVec}

pub same_name : (x y : ArrayVec ℕ) → AllZip (λ (a b : ℕ). b ≡ a) x.items y.items → y ≡ x
same_name x y h = λ i. record { items = same_from_all_zip (λ (a b : ℕ). b ≡ a) x.items y.items h (λ a b e. e) i }

-- what is left where all is kept, and each value turned
module _ {K X F : Type 0} (T : F → K → X → Bool → X → F → Type 0) (turned : X → X)
    (says : (f : F) (k : K) (v : X) (b : Bool) (w : X) (g : F) → T f k v b w g → (b ≡ true) × (w ≡ turned v)) where
  pub all_turned : (f : F) (es kept : List (K × X)) → RetainsPairs T f es kept → kept ≡ map (λ e. (e.0, turned e.1)) es
  all_turned f [] kept h = h
  all_turned f (e ∷ es) kept h =
      let s = says f e.0 e.1 h.0 h.1 h.2 h.4 in
      let rest = all_turned h.2 es h.3 h.5 in
      h.6 ∙ (λ j. cond (s.0 j) ((e.0, s.1 j) ∷ rest j) (rest j))
