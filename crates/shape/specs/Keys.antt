-- The keys of rows, and the texts that say how they are made.
use Rattle.std.specs.Prelude.{◌≡◌, ℕ, ◌+◌, ◌<◌, ◌≤◌, Bool, true, false, ◌&&◌, nat_le, List, [], ◌∷◌, ◌++◌, Option, Some}
use Rattle.std.specs.Prelude.{None, length, map, slice_get, slice_index, slice_index_or, if◌then◌else◌, codes}
use Rattle.std.specs.Char.{to_ascii_uppercase}
use Rattle.std.specs.List.{AllByRecursion, list_all}
use Rattle.dbf_file.specs.declared.field.Letter.{Letter}
use Rattle.dbf_file.specs.declared.field.Letter.TheVariants.{C, N, D, L}
use Rattle.dbf_file.specs.declared.field.Field.{Field}
use Rattle.dbf_file.specs.Tables.{StructureState, row_widths, letter_at}
use Rattle.shape.specs.declared.parts.KeyPart.{KeyPart}

-- a text as it stands, or with its ASCII letters in capitals
abbrev pub cased : Bool → List ℕ → List ℕ
cased upper text = if upper then map to_ascii_uppercase text else text

-- what a part gives of a row's texts
abbrev pub part_text : KeyPart → List (List ℕ) → List ℕ
part_text part texts = cased part.upper (slice_index_or texts part.field [])

-- the key of a row with these texts: what its parts give, joined
abbrev pub key_of : List KeyPart → List (List ℕ) → List ℕ
key_of [] texts = []
key_of (part ∷ parts) texts = part_text part texts ++ key_of parts texts

-- the length of keys over fields of these widths
abbrev pub key_length : List KeyPart → List ℕ → ℕ
key_length [] widths = 0
key_length (part ∷ parts) widths = slice_index widths part.field + key_length parts widths

-- a field of the structure that holds texts
pub record IsTextField (structure : StructureState) (part : KeyPart) : Type 0 where
  pub within : part.field < length structure.fields
  pub letter : letter_at structure part.field ≡ C

-- a key that rows of the structure can have
pub record IsKey (structure : StructureState) (parts : List KeyPart) : Type 0 where
  pub some : 1 ≤ length parts
  pub few : length parts ≤ 8
  pub fields : AllByRecursion (IsTextField structure) parts
  pub short : (1 ≤ key_length parts (row_widths structure)) × (key_length parts (row_widths structure) ≤ 100)

-- ---- the same as tests of fields alone

abbrev pub holds_text : Letter → Bool
holds_text C = true
holds_text N = false
holds_text D = false
holds_text L = false

abbrev pub is_text_field : Option Field → Bool
is_text_field None = false
is_text_field (Some f) = holds_text f.letter

abbrev pub width_of : Option Field → ℕ
width_of None = 0
width_of (Some f) = f.width

-- the part names a field that holds texts
abbrev pub names_text : List Field → KeyPart → Bool
names_text fields part = is_text_field (slice_get fields part.field)

-- the bytes of the fields named
abbrev pub key_bytes : List Field → List KeyPart → ℕ
key_bytes fields [] = 0
key_bytes fields (part ∷ parts) = width_of (slice_get fields part.field) + key_bytes fields parts

-- one to eight parts, each a field that holds texts, of 1 to 100 bytes together
unfoldable pub is_key : List Field → List KeyPart → Bool
is_key fields parts = nat_le 1 (length parts) && nat_le (length parts) 8 && list_all (names_text fields) parts
    && nat_le 1 (key_bytes fields parts) && nat_le (key_bytes fields parts) 100

-- ---- how a key is spelled

abbrev pub name_of : Option Field → List ℕ
name_of None = []
name_of (Some f) = f.name.items

-- the field's name, in UPPER() where its text is taken in capitals
abbrev pub part_spelled : List Field → KeyPart → List ℕ
part_spelled fields part = if part.upper then codes "UPPER(" ++ (name_of (slice_get fields part.field) ++ codes ")")
    else name_of (slice_get fields part.field)

-- the further parts, a plus sign before each
abbrev pub more_spelled : List Field → List KeyPart → List ℕ
more_spelled fields [] = []
more_spelled fields (part ∷ parts) = (43 ∷ part_spelled fields part) ++ more_spelled fields parts

-- the parts in their order, joined by plus signs, in capitals and without blanks
abbrev pub key_text : List Field → List KeyPart → List ℕ
key_text fields [] = []
key_text fields (part ∷ parts) = part_spelled fields part ++ more_spelled fields parts
