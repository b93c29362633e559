-- What a declaration file declares.
use Rattle.std.specs.Prelude.{◌≡◌, ℕ, ◌<◌, ◌≤◌, ◌⊎◌, Bool, true, false, not, ◌&&◌, List, [], ◌∷◌, ◌++◌, Option}
use Rattle.std.specs.Prelude.{Some, length, map, take, slice_get, codes}
use Rattle.std.specs.Char.{to_ascii_uppercase}
use Rattle.std.specs.List.{list_any}
use Rattle.std.specs.Str.{bytes_eq}
use Rattle.dbf_file.specs.declared.field.Field.{Field}
use Rattle.dbf_file.specs.declared.field.Letter.{Letter}
use Rattle.dbf_file.specs.declared.stamp.Stamp.{Stamp}
use Rattle.dbf_file.specs.Rows.{Row}
use Rattle.dbf_file.specs.Tables.{StructureState, DbfText}
use Rattle.file_access.specs.Holding.{Holds}
use Rattle.shape.specs.declared.indexes.IndexShape.{IndexShape}
use Rattle.shape.specs.declared.tables.TableShape.{TableShape}
use Rattle.shape.specs.declared.whole.Shape.{Shape}
use Rattle.shape.specs.Indexes.{is_next_index}
use Rattle.shape.specs.Names.{is_file_name}
use Rattle.shape.specs.Tables.{is_next_table}
use Rattle.text_lines.specs.Lines.{lines}
use Rattle.shape_files.specs.declared.declarations.Declarations.{Declarations}
use Rattle.shape_files.specs.Keys.{SpellsKey, SpellsNoKey}
use Rattle.shape_files.specs.Lines.{Said, Nothing, Table, Index, Other, said_in_line}

-- the shape as far as it is declared
abbrev pub shape_of : Declarations → Shape
shape_of d = record { tables = d.tables.items; indexes = d.indexes.items }

abbrev pub no_shape : Shape
no_shape = record { tables = []; indexes = [] }

abbrev pub with_declared_table : Shape → TableShape → Shape
with_declared_table s t = record { tables = s.tables ++ t ∷ []; indexes = s.indexes }

abbrev pub with_index : Shape → IndexShape → Shape
with_index s x = record { tables = s.tables; indexes = s.indexes ++ x ∷ [] }

-- ---- names

-- one of these tables, and one of these indexes, has the name
abbrev pub is_table_named : List TableShape → List ℕ → Bool
is_table_named tables name = list_any (λ t. bytes_eq t.name.items name) tables

abbrev pub is_index_named : List IndexShape → List ℕ → Bool
is_index_named indexes name = list_any (λ x. bytes_eq x.name.items name) indexes

-- a table or an index more can have the name
abbrev pub is_new_table_name : List TableShape → List ℕ → Bool
is_new_table_name tables name = is_file_name name && not (is_table_named tables name)

abbrev pub is_new_index_name : List IndexShape → List ℕ → Bool
is_new_index_name indexes name = is_file_name name && not (is_index_named indexes name)

-- ---- fields of a table's file

abbrev pub file_name : List ℕ → List ℕ
file_name name = name ++ codes ".DBF"

abbrev pub plain_field : Field → List ℕ × Letter × ℕ × ℕ
plain_field f = (f.name.items, f.letter, f.width, f.decimals)

abbrev pub in_capitals : Field → List ℕ × Letter × ℕ × ℕ
in_capitals f = (map to_ascii_uppercase f.name.items, f.letter, f.width, f.decimals)

-- The bytes are the file of a table of at most a million rows that has these fields, with their names in capitals here.
pub record IsTableWithFields (bytes : List ℕ) (fields : List Field) : Type 0 where
  pub structure : StructureState
  pub rows : List Row
  pub stamp : Stamp
  pub text : DbfText structure rows stamp bytes
  pub few : length rows ≤ 1000000
  pub same : map plain_field fields ≡ map in_capitals structure.fields

-- the file may hold such a table in at most 64 MiB
pub record HasFields (holds : Option (List ℕ) → Type 0) (fields : List Field) : Type 0 where
  pub bytes : List ℕ
  pub held : holds (Some bytes)
  pub short : length bytes ≤ 67108864
  pub table : IsTableWithFields bytes fields

-- ---- what lines declare

-- a table of that name, with the fields of the file of that name, that can be declared next
pub record DeclaresTable (holds : Holds) (name : List ℕ) (before after : Shape) : Type 0 where
  pub table : TableShape
  pub named : table.name.items ≡ name
  pub file : HasFields (holds (file_name name)) table.fields
  pub next : is_next_table before.tables table ≡ true
  pub room : length before.tables < 32
  pub added : after ≡ with_declared_table before table

-- the table of that number is the first of that name, and has those fields
pub record NamesTable (tables : List TableShape) (number : ℕ) (name : List ℕ) (fields : List Field) : Type 0 where
  pub of : TableShape
  pub there : slice_get tables number ≡ Some of
  pub named : of.name.items ≡ name
  pub fields_are : of.fields ≡ fields
  pub first : is_table_named (take number tables) name ≡ false

-- an index of that name, of the declared table of that name, whose key is spelled so
pub record SaysIndex (before : Shape) (name table key : List ℕ) (index : IndexShape) : Type 0 where
  pub fields : List Field
  pub named : index.name.items ≡ name
  pub owner : NamesTable before.tables index.table table fields
  pub spelled : SpellsKey fields key index.key

-- one that can be declared next
pub record DeclaresIndex (name table key : List ℕ) (before after : Shape) : Type 0 where
  pub index : IndexShape
  pub says : SaysIndex before name table key index
  pub next : is_next_index before.tables before.indexes index ≡ true
  pub room : length before.indexes < 64
  pub added : after ≡ with_index before index

-- over the fields of the declared table of that name the text spells no key
pub record SpellsNone (before : Shape) (table key : List ℕ) : Type 0 where
  pub number : ℕ
  pub fields : List Field
  pub owner : NamesTable before.tables number table fields
  pub none : SpellsNoKey fields key

-- an index of that name, of the declared table of that name, whose key is spelled so, can't be declared
pub record IsUnfitIndex (before : Shape) (name table key : List ℕ) : Type 0 where
  pub index : IndexShape
  pub says : SaysIndex before name table key index
  pub unfit : is_next_index before.tables before.indexes index ≡ false

abbrev pub IsFaultyKey : Shape → List ℕ → List ℕ → List ℕ → Type 0
IsFaultyKey before name table key = SpellsNone before table key ⊎ IsUnfitIndex before name table key

abbrev pub LineDeclares : Holds → Said → Shape → Shape → Type 0
LineDeclares holds Nothing before after = after ≡ before
LineDeclares holds (Table name) before after = DeclaresTable holds name before after
LineDeclares holds (Index name table key) before after = DeclaresIndex name table key before after
LineDeclares holds Other before after = ⊥

-- each line declares something behind what those before it declare
abbrev pub Declare : Holds → List (List ℕ) → Shape → Shape → Type 0
Declare holds [] before after = before ≡ after
Declare holds (line ∷ others) before after =
    (next : Shape) × LineDeclares holds (said_in_line line) before next × Declare holds others next after

-- the file of that name may hold lines that declare the shape, each in its turn
pub record IsDeclared (holds : Holds) (name : List ℕ) (shape : Shape) : Type 0 where
  pub bytes : List ℕ
  pub held : holds name (Some bytes)
  pub short : length bytes ≤ 67108864
  pub declared : Declare holds (lines bytes) no_shape shape
