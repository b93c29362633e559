-- Fields that make the key of an index. The bytes 32 and 9 are blanks, 43 is a plus sign.
use Rattle.std.specs.Prelude.{ℕ, ◌-◌, ◌==◌, ◌&&◌, nat_le, Bool, true, false, not, List, [], ◌∷◌, Option}
use Rattle.std.specs.Prelude.{Some, None, length, map, filter, take, drop, slice_range, codes, position, option_map}
use Rattle.std.specs.Prelude.{if◌then◌else◌}
use Rattle.std.specs.Char.{to_ascii_uppercase}
use Rattle.std.specs.List.{slice_split}
use Rattle.std.specs.Str.{bytes_eq, str_eq_ignore_ascii_case}
use Rattle.dbf_file.specs.declared.field.Field.{Field}
use Rattle.prg_expr.specs.Lexicon.{is_blank_or_tab}
use Rattle.shape.specs.declared.parts.KeyPart.{KeyPart}
use Rattle.shape.specs.Keys.{is_key, key_bytes, key_text}

-- a key's text in capitals and without blanks
unfoldable pub plain_text : List ℕ → List ℕ
plain_text text = map to_ascii_uppercase (filter (λ byte. not (is_blank_or_tab byte)) text)

-- ---- a plain text's pieces, which stand between plus signs

abbrev pub is_plus : ℕ → Bool
is_plus byte = byte == 43

-- what stands behind a plus sign, if there is one
abbrev pub pieces_behind : Option (List ℕ) → List (List ℕ)
pieces_behind None = []
pieces_behind (Some text) = slice_split is_plus text

-- the piece stands in UPPER()
abbrev pub is_upper : List ℕ → Bool
is_upper piece = nat_le 7 (length piece) && bytes_eq (take 6 piece) (codes "UPPER(")
    && bytes_eq (drop (length piece - 1) piece) (codes ")")

-- the number of the field of that name, without regard to case
abbrev pub number_named : List Field → List ℕ → Option ℕ
number_named fields name = position (λ f. str_eq_ignore_ascii_case f.name.items name) fields

abbrev pub part_named : List Field → List ℕ → Bool → Option KeyPart
part_named fields name upper = option_map (λ n. record { field = n; upper = upper }) (number_named fields name)

-- the part that a piece says: a field's name, or UPPER() around one
unfoldable pub part_in : List Field → List ℕ → Option KeyPart
part_in fields piece =
    if is_upper piece then part_named fields (slice_range piece 6 (length piece - 1)) true
    else part_named fields piece false

abbrev pub with_part : Option KeyPart → Option (List KeyPart) → Option (List KeyPart)
with_part None parts = None
with_part (Some part) None = None
with_part (Some part) (Some parts) = Some (part ∷ parts)

-- the parts that pieces say, if each says one
abbrev pub said_parts : List Field → List (List ℕ) → Option (List KeyPart)
said_parts fields [] = Some []
said_parts fields (piece ∷ pieces) = with_part (part_in fields piece) (said_parts fields pieces)

-- ---- keys

-- the parts, if rows of the fields can have such a key, with keys of that length
abbrev pub fitting_key : List Field → ℕ → List KeyPart → Option (List KeyPart)
fitting_key fields key_length parts =
    if is_key fields parts && key_bytes fields parts == key_length then Some parts else None

abbrev pub key_if : List Field → ℕ → Option (List KeyPart) → Option (List KeyPart)
key_if fields key_length None = None
key_if fields key_length (Some parts) = fitting_key fields key_length parts

-- the key that fields make by a plain text of at most 100 bytes, with keys of that length
abbrev pub made_of : List Field → ℕ → List ℕ → Option (List KeyPart)
made_of fields key_length plain =
    if nat_le (length plain) 100 then key_if fields key_length (said_parts fields (slice_split is_plus plain)) else None

-- rows of the fields can have the key, and it is spelled in at most 100 bytes
abbrev pub can_be_key : List Field → List KeyPart → Bool
can_be_key fields parts = is_key fields parts && nat_le (length (key_text fields parts)) 100

abbrev pub is_key_if : List Field → Option (List KeyPart) → Bool
is_key_if fields None = false
is_key_if fields (Some parts) = can_be_key fields parts

-- rows of the fields can have a key that is spelled so
abbrev pub has_key : List Field → List ℕ → Bool
has_key fields spelled = is_key_if fields (said_parts fields (slice_split is_plus spelled))
