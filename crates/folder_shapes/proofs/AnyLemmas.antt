-- Lists that are made of others.
use Rattle.std.proofs.Common.{◌≡◌, ◌||◌, ℕ, Bool, List, [], ◌∷◌, map, take, length, refl, sym, ap, suc}
use Rattle.std.proofs.lemmas.List.{take-map}
use Rattle.std.specs.List.{list_any}

pub any_of_map : {X Y : Type 0} (p : X → Bool) (h : Y → X) (ys : List Y)
    → list_any p (map h ys) ≡ list_any (λ y. p (h y)) ys
any_of_map p h [] = refl
any_of_map p h (y ∷ ys) = ap (λ b. p (h y) || b) (any_of_map p h ys)

pub length_of_map : {X Y : Type 0} (h : Y → X) (ys : List Y) → length (map h ys) ≡ length ys
length_of_map h [] = refl
length_of_map h (y ∷ ys) = ap suc (length_of_map h ys)

pub take_of_map : {X Y : Type 0} (h : Y → X) (n : ℕ) (ys : List Y) → map h (take n ys) ≡ take n (map h ys)
take_of_map h n ys = sym (take-map h n ys)
