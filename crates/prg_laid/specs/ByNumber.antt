-- Items by their numbers.
use Rattle.std.specs.Prelude.{ℕ, List, [], ◌∷◌, Option, Some, None, slice_get}

abbrev pub in_front : {A : Type 0} → Option A → List A → List A
in_front None others = others
in_front (Some item) others = item ∷ others

-- the items of these numbers, counted from 0
unfoldable pub by_number : {A : Type 0} → List A → List ℕ → List A
by_number items [] = []
by_number items (number ∷ others) = in_front (slice_get items number) (by_number items others)
