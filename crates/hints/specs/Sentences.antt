-- Sentences that are told.
use Rattle.std.specs.Prelude.{ℕ, ◌==◌, ◌&&◌, not, nat_le, nat_lt, Bool, false, List, [], ◌∷◌}
use Rattle.std.specs.List.{list_all}

-- a letter, a digit or another sign of one line
abbrev pub is_printed : ℕ → Bool
is_printed byte = nat_le 32 byte && nat_lt byte 127

abbrev pub ends_otherwise : List ℕ → Bool
ends_otherwise [] = false
ends_otherwise (last ∷ []) = not (last == 46)
ends_otherwise (byte ∷ next ∷ rest) = ends_otherwise (next ∷ rest)

-- one line without a point at its end
abbrev pub is_sentence : List ℕ → Bool
is_sentence text = list_all is_printed text && ends_otherwise text
