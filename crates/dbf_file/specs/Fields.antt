-- The fields of a table.
use Rattle.std.specs.Prelude.{ℕ, ◌+◌, Bool, true, not, ◌&&◌, ◌||◌, ◌==◌, nat_le, List, [], ◌∷◌, ◌++◌, length, map}
use Rattle.std.specs.Prelude.{Option, Some, None, if◌then◌else◌}
use Rattle.std.specs.List.{list_any}
use Rattle.dbf_file.specs.declared.field.Letter.{Letter}
use Rattle.dbf_file.specs.declared.field.Letter.TheVariants.{C, N, D, L}
use Rattle.dbf_file.specs.declared.field.Field.{Field}
use Rattle.dbf_file.specs.Names.{is_name, same_name}

-- the byte of a letter
abbrev pub code_of : Letter → ℕ
code_of C = 67
code_of N = 78
code_of D = 68
code_of L = 76

-- the letter of a byte: capitals alone
abbrev pub letter_of : ℕ → Option Letter
letter_of code = if code == 67 then Some C else if code == 78 then Some N else if code == 68 then Some D
    else if code == 76 then Some L else None

-- the widths and decimals of each letter
abbrev pub has_shape : Letter → ℕ → ℕ → Bool
has_shape C width decimals = nat_le 1 width && nat_le width 254 && decimals == 0
has_shape N width decimals =
    nat_le 1 width && nat_le width 19 && (decimals == 0 || (nat_le decimals 15 && nat_le (decimals + 2) width))
has_shape D width decimals = width == 8 && decimals == 0
has_shape L width decimals = width == 1 && decimals == 0

-- a field as it may be declared
unfoldable pub is_field : Field → Bool
is_field f = is_name f.name.items && has_shape f.letter f.width f.decimals

-- no earlier field has that name
unfoldable pub is_new : List Field → Field → Bool
is_new earlier f = not (list_any (λ g. same_name g.name.items f.name.items) earlier)

-- each is a field, and has another name than those before it
abbrev pub fields_go_on : List Field → List Field → Bool
fields_go_on earlier [] = true
fields_go_on earlier (f ∷ fs) = (is_field f && is_new earlier f) && fields_go_on (earlier ++ f ∷ []) fs

abbrev pub widths_of : List Field → List ℕ
widths_of fields = map (λ f. f.width) fields

-- the bytes of fields of these widths
abbrev pub total : List ℕ → ℕ
total [] = 0
total (width ∷ widths) = width + total widths

-- the length of a record whose fields have these widths: a mark, and the fields
abbrev pub size_of : List ℕ → ℕ
size_of widths = 1 + total widths

-- where fields of these widths begin, the first of them at a place
abbrev pub places_from : ℕ → List ℕ → List ℕ
places_from place [] = []
places_from place (width ∷ widths) = place ∷ places_from (place + width) widths

-- the fields of a table: 1 to 128, each a field, with different names, and a record of at most 4000 bytes
unfoldable pub are_fields : List Field → Bool
are_fields fields = nat_le 1 (length fields) && nat_le (length fields) 128 && fields_go_on [] fields
    && nat_le (size_of (widths_of fields)) 4000
