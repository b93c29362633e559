-- Names of fields. The bytes 65 to 90 are the capitals, 97 to 122 the small letters, 48 to 57 the digits, 95 is the
-- underscore.
use Rattle.std.specs.Prelude.{ℕ, Bool, false, ◌&&◌, ◌||◌, ◌==◌, nat_le, List, [], ◌∷◌, length}
use Rattle.std.specs.Char.{is_ascii_alphabetic, is_ascii_alphanumeric}
use Rattle.std.specs.List.{list_all}
use Rattle.std.specs.Str.{str_eq_ignore_ascii_case}

-- a letter, a digit or an underscore
abbrev pub is_name_byte : ℕ → Bool
is_name_byte c = is_ascii_alphanumeric c || c == 95

abbrev pub begins_with_letter : List ℕ → Bool
begins_with_letter [] = false
begins_with_letter (c ∷ cs) = is_ascii_alphabetic c

-- at most ten letters, digits and underscores, a letter first
unfoldable pub is_name : List ℕ → Bool
is_name name = (nat_le (length name) 10 && begins_with_letter name) && list_all is_name_byte name

-- the same name without regard to case
unfoldable pub same_name : List ℕ → List ℕ → Bool
same_name a b = str_eq_ignore_ascii_case a b
