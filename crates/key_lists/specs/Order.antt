-- Lists in a strict order, and the parts of a list on either side of a value.
use Rattle.std.specs.Prelude.{◌≡◌, Bool, true, false, ◌||◌, Option, List, [], ◌∷◌, if◌then◌else◌, filter, reverse}
use Rattle.std.specs.Prelude.{slice_get}

-- a test that orders all values strictly
pub record IsStrictOrder {X : Type 0} (lt : X → X → Bool) : Type 0 where
  pub irrefl : (x : X) → lt x x ≡ false
  pub trans : (x y z : X) → lt x y ≡ true → lt y z ≡ true → lt x z ≡ true
  pub total : (x y : X) → lt x y ≡ false → lt y x ≡ false → x ≡ y

-- the order turned round
abbrev pub flip : {X : Type 0} → (X → X → Bool) → X → X → Bool
flip lt x y = lt y x

-- the fact holds of each element
abbrev pub Each : {X : Type 0} → (X → Type 0) → List X → Type 0
Each P [] = Unit {0}
Each P (x ∷ xs) = P x × Each P xs

-- each element is before all later ones
abbrev pub IsAscending : {X : Type 0} → (X → X → Bool) → List X → Type 0
IsAscending lt [] = Unit {0}
IsAscending lt (x ∷ xs) = Each (λ y. lt x y ≡ true) xs × IsAscending lt xs

-- no value stands twice
abbrev pub IsDistinct : {X : Type 0} → List X → Type 0
IsDistinct [] = Unit {0}
IsDistinct (x ∷ xs) = Each (λ y. y ≡ x → ⊥) xs × IsDistinct xs

-- the list with a value put at its place
abbrev pub inserted : {X : Type 0} → (X → X → Bool) → X → List X → List X
inserted lt x [] = x ∷ []
inserted lt x (y ∷ ys) = if lt y x then y ∷ inserted lt x ys else x ∷ y ∷ ys

-- the list without a value
abbrev pub without : {X : Type 0} → (X → X → Bool) → X → List X → List X
without lt x ys = filter (λ y. lt x y || lt y x) ys

-- the values in order
abbrev pub in_order : {X : Type 0} → (X → X → Bool) → List X → List X
in_order lt [] = []
in_order lt (x ∷ xs) = inserted lt x (in_order lt xs)

-- what comes after a value, the nearest first
abbrev pub above : {X : Type 0} → (X → X → Bool) → X → List X → List X
above lt x ys = filter (lt x) ys

-- what comes before a value, the nearest first
abbrev pub below : {X : Type 0} → (X → X → Bool) → X → List X → List X
below lt x ys = above (flip lt) x (reverse ys)

abbrev pub first : {X : Type 0} → List X → Option X
first ys = slice_get ys 0
