-- How much room a block takes in a code.
use Rattle.std.specs.Prelude.{ℕ, ◌+◌, ◌-◌, ◌^◌, min, Bool, false, if◌then◌else◌, List, [], ◌∷◌, slice_get}
use Rattle.std.specs.Option.{option_map_or}
use Rattle.prg_code.specs.declared.block.Draft.{Draft}
use Rattle.prg_code.specs.declared.block.Draft.TheVariants as draft
use Rattle.prg_code.specs.declared.block.Label.{Label}

-- a count, as far as a number of 64 bits holds it
abbrev pub in_64_bits : ℕ → ℕ
in_64_bits n = min n (2 ^ 64 - 1)

-- How many instructions a piece becomes, in a procedure with so many slots of its own: a return gives up each of them.
abbrev pub piece_size : ℕ → Draft → ℕ
piece_size own (draft.Label number) = 0
piece_size own draft.Return = own + 1
piece_size own _ = 1

-- whether a jump leads to the label of this number
abbrev pub is_jumped : List Label → ℕ → Bool
is_jumped labels number = option_map_or (λ l. l.jumped) (slice_get labels number) false

-- how many maps a piece becomes at most: one of a label to which a jump leads
abbrev pub maps_at : List Label → Draft → ℕ
maps_at labels (draft.Label number) = if is_jumped labels number then 1 else 0
maps_at labels _ = 0

-- those of all pieces of a block
abbrev pub sizes_of : ℕ → List Draft → ℕ
sizes_of own [] = 0
sizes_of own (d ∷ ds) = piece_size own d + sizes_of own ds

abbrev pub maps_of : List Label → List Draft → ℕ
maps_of labels [] = 0
maps_of labels (d ∷ ds) = maps_at labels d + maps_of labels ds
