-- Areas that are filled one by one.
use Rattle.std.proofs.Common.{◌≡◌, ℕ, zero, suc, ◌<◌, ◌+◌, ◌-◌, List, [], ◌∷◌, length, take, set, Some, None, refl, ap}
use Rattle.std.proofs.Common.{sym, subst, ◌∙◌, arith}
use Rattle.std.specs.Prelude.{map, slice_get, slice_index_or}
use Rattle.std.proofs.lemmas.List.{length-set}
use Rattle.work_area.specs.Areas.{StoreState, use_at}
use Rattle.code_items.specs.declared.desk.AreaState.{AreaState}
use Rattle.run_steps.specs.World.{area_state}

-- one more is as wanted
pub filled : {A : Type 0} (n : ℕ) (xs ys : List A) (x : A) → n < length xs → take n xs ≡ take n ys
    → slice_get ys n ≡ Some x → take (suc n) (set xs n x) ≡ take (suc n) ys
filled n [] ys x lt e g = absurd (omega (arith, lt))
filled n (a ∷ xs) [] x lt e g = absurd (cc)
filled zero (a ∷ xs) (b ∷ ys) x lt e g = let same : b ≡ x = cc in ap (λ y. y ∷ []) (sym same)
filled (suc n) (a ∷ xs) (b ∷ ys) x lt e g =
    let first : a ≡ b = cc in
    let others : take n xs ≡ take n ys = cc in
    rw first (ap (λ l. b ∷ l) (filled n xs ys x (omega (arith, lt)) others g))

pub mapped : {A B : Type 0} (f : A → B) (xs : List A) (n : ℕ) (d : A) → n < length xs
    → slice_get (map f xs) n ≡ Some (f (slice_index_or xs n d))
mapped f [] n d lt = absurd (omega (arith, lt))
mapped f (x ∷ xs) zero d lt = refl
mapped f (x ∷ xs) (suc n) d lt = mapped f xs n d (omega (arith, lt))

-- what an area of a store holds, as tests see it

pub area_found : (s : StoreState) (n : ℕ) (area : AreaState) → n < length s.areas
    → area ≡ area_state s.tables (use_at s (n + 1)) → slice_get (map (area_state s.tables) s.areas) n ≡ Some area
area_found s n area lt e =
    let back : n + 1 - 1 ≡ n = omega arith in
    mapped (area_state s.tables) s.areas n None lt ∙ ap (λ x. Some x)
    (sym (e ∙ ap (λ k. area_state s.tables (slice_index_or s.areas k None)) back))

-- there are as many areas as before
pub as_long : (areas filled_areas : List AreaState) (k : ℕ) (area : AreaState) → length areas ≡ 10
    → filled_areas ≡ set areas k area → length filled_areas ≡ 10
as_long areas filled_areas k area long f = ap (λ l. length l) f ∙ length-set areas k area ∙ long

-- one area more is as the store has it
pub area_filled : (s : StoreState) (areas filled_areas : List AreaState) (n k : ℕ) (area : AreaState) → n < length areas
    → n < length s.areas → take n areas ≡ take n (map (area_state s.tables) s.areas) → k ≡ n
    → area ≡ area_state s.tables (use_at s (n + 1)) → filled_areas ≡ set areas k area
    → take (suc n) filled_areas ≡ take (suc n) (map (area_state s.tables) s.areas)
area_filled s areas filled_areas n k area room there same at e f =
    let here : filled_areas ≡ set areas n area = subst (λ m. filled_areas ≡ set areas m area) at f in
    ap (λ l. take (suc n) l) here ∙ filled n areas (map (area_state s.tables) s.areas) area room same
    (area_found s n area there e)
