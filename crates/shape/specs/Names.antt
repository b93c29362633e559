-- Names of tables, indexes and fields. 65 to 90 are the capitals, 95 is the underscore.
use Rattle.std.specs.Prelude.{ℕ, Bool, false, not, ◌&&◌, ◌||◌, ◌==◌, nat_le, List, [], ◌∷◌, length}
use Rattle.std.specs.Char.{is_ascii_uppercase, is_ascii_digit}
use Rattle.std.specs.List.{list_all}

-- a capital, a digit or an underscore
abbrev pub is_capital_byte : ℕ → Bool
is_capital_byte c = is_ascii_uppercase c || is_ascii_digit c || c == 95

abbrev pub begins_with_capital : List ℕ → Bool
begins_with_capital [] = false
begins_with_capital (c ∷ cs) = is_ascii_uppercase c

abbrev pub is_capital_name : List ℕ → Bool
is_capital_name name = begins_with_capital name && list_all is_capital_byte name

-- A to J alone are the ten work areas, M alone is that of variables
abbrev pub is_area_letter : List ℕ → Bool
is_area_letter [] = false
is_area_letter (c ∷ []) = (nat_le 65 c && nat_le c 74) || c == 77
is_area_letter (c ∷ d ∷ cs) = false

-- a name that a table or an index can have
unfoldable pub is_file_name : List ℕ → Bool
is_file_name name = nat_le (length name) 8 && is_capital_name name && not (is_area_letter name)
