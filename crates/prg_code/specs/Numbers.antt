-- Items by number.
use Rattle.std.specs.Prelude.{◌≡◌, ℕ, Bool, true, List, ◌++◌, Some, slice_get}

-- an item that is equal to this one stands at the number
abbrev pub HasNumber : {A : Type 0} → (A → A → Bool) → List A → A → ℕ → Type 0
HasNumber {A} eq items item number = (same : A) × (slice_get items number ≡ Some same) × (eq item same ≡ true)

-- the later items are the earlier ones, each at its number, and perhaps more
abbrev pub Grows : {A : Type 0} → List A → List A → Type 0
Grows {A} earlier later = (more : List A) × (later ≡ earlier ++ more)
