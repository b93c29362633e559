-- A test along two lists of one length.
use Rattle.std.specs.Prelude.{Bool, true, false, ◌&&◌, List, [], ◌∷◌}

abbrev pub along : {A : Type 0} → (A × A → Bool) → List A → List A → Bool
along test [] [] = true
along test (a ∷ as') [] = false
along test [] (b ∷ bs) = false
along test (a ∷ as') (b ∷ bs) = test (a, b) && along test as' bs
