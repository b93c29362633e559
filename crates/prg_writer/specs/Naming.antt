-- The variables that a procedure sees.
use Rattle.std.specs.Prelude.{◌≡◌, ℕ, if◌then◌else◌, List, [], ◌∷◌, Option, Some}
use Rattle.std.specs.Str.{bytes_eq}
use Rattle.arrayvec.specs.ArrayVec.{ArrayVec}
use Rattle.prg_code.specs.Bindings.{NamedVariables, slot_named}

-- the slot for which a name stands, where parameters hide those of their names, of two of one name the last one
abbrev pub slot_behind : List (ArrayVec ℕ) → List ℕ → (List ℕ → Option ℕ) → List ℕ → Option ℕ
slot_behind [] slots known name = known name
slot_behind (p ∷ ps) [] known name = known name
slot_behind (p ∷ ps) (slot ∷ slots) known name =
    slot_behind ps slots (λ n. if bytes_eq p.items n then Some slot else known n) name

-- each name stands for its parameter's slot, or for what it stood for
abbrev pub SeesParameters : List (ArrayVec ℕ) → List ℕ → NamedVariables → NamedVariables → Type 0
SeesParameters parameters slots earlier later =
    (name : List ℕ) → slot_named later name ≡ slot_behind parameters slots (slot_named earlier) name
