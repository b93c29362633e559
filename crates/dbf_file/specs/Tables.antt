-- A table, and the bytes of its file.
use Rattle.std.specs.Prelude.{◌≡◌, ℕ, ◌+◌, ◌^◌, ◌<◌, List, [], ◌∷◌, ◌++◌, length, drop, slice_index, slice_index_or}
use Rattle.std.specs.Prelude.{map, IsTrue}
use Rattle.std.specs.List.{AllByRecursion}
use Rattle.dbf_file.specs.declared.field.Letter.{Letter}
use Rattle.dbf_file.specs.declared.field.Letter.TheVariants.{C}
use Rattle.dbf_file.specs.declared.field.Field.{Field}
use Rattle.dbf_file.specs.declared.stamp.Stamp.{Stamp}
use Rattle.dbf_file.specs.Numbers.{number_at, number_text}
use Rattle.dbf_file.specs.Fields.{are_fields, widths_of, size_of}
use Rattle.dbf_file.specs.Descriptors.{Describes, field_head_text}
use Rattle.dbf_file.specs.Rows.{Row, HasWidths, rows_text}

-- The fields, and the header's bytes from byte 12 on, with all that is kept: 20 bytes, the descriptors, a byte 13, and
-- what stands behind it.
pub record StructureState : Type 0 where
  pub fields : List Field
  pub head : List ℕ

-- what callers see of a table: its structure, its rows, and how many more rows there is room for
pub record TableState : Type 0 where
  pub structure : StructureState
  pub rows : List Row
  pub spare : ℕ

abbrev pub row_widths : StructureState → List ℕ
row_widths structure = widths_of structure.fields

-- letter and decimals of field f
abbrev pub letter_at : StructureState → ℕ → Letter
letter_at structure f = slice_index_or (map (λ g. g.letter) structure.fields) f C

abbrev pub decimals_at : StructureState → ℕ → ℕ
decimals_at structure f = slice_index (map (λ g. g.decimals) structure.fields) f

-- the structure of fields that no file gave
abbrev pub structure_of : List Field → StructureState
structure_of fields = record { fields = fields; head = field_head_text fields }

-- a structure that a file can have
pub record IsStructure (structure : StructureState) : Type 0 where
  pub fields : IsTrue (are_fields structure.fields)
  pub described : Describes (drop 20 structure.head) structure.fields
  pub short : 12 + length structure.head < 2 ^ 16

-- rows that a file of the structure can have
pub record AreRows (structure : StructureState) (rows : List Row) : Type 0 where
  pub each : AllByRecursion (HasWidths (row_widths structure)) rows
  pub count : length rows < 2 ^ 32

-- The bytes are a file of a table: a header with the stamp, the count of rows and the lengths of header and record, and
-- behind it the rows. What stands behind the last row may be anything.
pub record DbfText (structure : StructureState) (rows : List Row) (stamp : Stamp) (bytes : List ℕ) : Type 0 where
  pub good : IsStructure structure
  pub sound : AreRows structure rows
  pub version : slice_index bytes 0 ≡ 3
  pub year : slice_index bytes 1 ≡ stamp.year
  pub month : slice_index bytes 2 ≡ stamp.month
  pub day : slice_index bytes 3 ≡ stamp.day
  pub count : number_at 4 4 bytes ≡ length rows
  pub header : number_at 2 8 bytes ≡ 12 + length structure.head
  pub size : number_at 2 10 bytes ≡ size_of (row_widths structure)
  pub text : (rest : List ℕ) × (drop 12 bytes ≡ structure.head ++ (rows_text rows ++ rest))

-- The file as it is written. A byte 26 ends it.
unfoldable pub dbf_text : StructureState → List Row → Stamp → List ℕ
dbf_text structure rows stamp =
    (3 ∷ stamp.year ∷ stamp.month ∷ stamp.day ∷ [])
    ++ (number_text 4 (length rows)
    ++ (number_text 2 (12 + length structure.head) ++ (number_text 2 (size_of (row_widths structure))
    ++ (structure.head ++ (rows_text rows ++ 26 ∷ [])))))
