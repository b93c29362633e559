-- Why a shape isn't read.
use Rattle.std.specs.Prelude.{◌≡◌, ℕ, ◌+◌, ◌<◌, ◌≤◌, ◌⊎◌, true, false, List, ◌∷◌, ◌++◌, Option, Some, None}
use Rattle.std.specs.Prelude.{length, take}
use Rattle.std.specs.Str.{IsUtf8}
use Rattle.dbf_file.specs.declared.stamp.Stamp.{Stamp}
use Rattle.dbf_file.specs.Rows.{Row}
use Rattle.dbf_file.specs.Tables.{StructureState, DbfText}
use Rattle.file_access.specs.Holding.{Holds, IsTooLong, Rose}
use Rattle.shape.specs.declared.indexes.IndexShape.{IndexShape}
use Rattle.shape.specs.declared.tables.TableShape.{TableShape}
use Rattle.shape.specs.declared.whole.Shape.{Shape}
use Rattle.shape.specs.Indexes.{is_next_index}
use Rattle.shape.specs.Tables.{is_next_table}
use Rattle.text_lines.specs.Lines.{lines}
use Rattle.shape_files.specs.declared.refusal.DeclFault.{DeclFault}
use Rattle.shape_files.specs.declared.refusal.DeclFault.TheVariants.{Absent, TooLong, Line}
use Rattle.shape_files.specs.declared.refusal.LineFault.{LineFault}
use Rattle.shape_files.specs.declared.refusal.LineFault.TheVariants as fault
use Rattle.shape_files.specs.declared.refusal.LineRefusal.{LineRefusal}
use Rattle.shape_files.specs.declared.refusal.LineRefusal.TheVariants as line
use Rattle.shape_files.specs.declared.refusal.ShapeRefusal.{ShapeRefusal}
use Rattle.shape_files.specs.declared.refusal.ShapeRefusal.TheVariants.{Refused, Disk, TableDisk, Memory}
use Rattle.shape_files.specs.Lines.{Said, Nothing, Table, Index, Other, said_in_line}
use Rattle.shape_files.specs.Shapes.{Declare, HasFields, IsFaultyKey, SaysIndex, file_name, is_new_index_name}
use Rattle.shape_files.specs.Shapes.{is_new_table_name, is_table_named, no_shape}

-- no table of at most a million rows stands in the bytes
abbrev pub HoldsNoTable : List ℕ → Type 0
HoldsNoTable bytes = (structure : StructureState) (rows : List Row) (stamp : Stamp)
    → DbfText structure rows stamp bytes → length rows ≤ 1000000 → ⊥

-- the file of a table is absent, too long, or no table's
pub data LacksTable (holds : Option (List ℕ) → Type 0) : Type 0 where
  NoFile : holds None → LacksTable holds
  LongFile : IsTooLong holds → LacksTable holds
  OtherFile : (bytes : List ℕ) → holds (Some bytes) → HoldsNoTable bytes → LacksTable holds

-- the table of that name in the file can't be declared behind these
pub record IsUnfitTable (holds : Option (List ℕ) → Type 0) (tables : List TableShape) (name : List ℕ) : Type 0 where
  pub table : TableShape
  pub named : table.name.items ≡ name
  pub file : HasFields holds table.fields
  pub unfit : is_next_table tables table ≡ false

-- Which faults a line has by what it says, behind lines that declare the shape: that of a table, of an index, and any.
-- A line that says none of what a line may say has Word alone. A table has no Key, and an index no Table. Limit is the
-- fault of what is one too many.
abbrev pub TableFaultIs : Holds → Shape → List ℕ → LineFault → Type 0
TableFaultIs holds before name fault.Word = ⊥
TableFaultIs holds before name fault.Name = is_new_table_name before.tables name ≡ false
TableFaultIs holds before name fault.Key = ⊥
TableFaultIs holds before name fault.Limit =
    (is_new_table_name before.tables name ≡ true) × (32 ≤ length before.tables)
TableFaultIs holds before name fault.Table =
    (is_new_table_name before.tables name ≡ true) × (length before.tables < 32)
    × (LacksTable (holds (file_name name)) ⊎ IsUnfitTable (holds (file_name name)) before.tables name)

-- (a table's number is a byte, so an index may name one of the first 256)
abbrev pub IndexFaultIs : Shape → List ℕ → List ℕ → List ℕ → LineFault → Type 0
IndexFaultIs before name table key fault.Word = ⊥
IndexFaultIs before name table key fault.Name =
    (is_new_index_name before.indexes name ≡ false) ⊎ (is_table_named (take 256 before.tables) table ≡ false)
IndexFaultIs before name table key fault.Key =
    (is_new_index_name before.indexes name ≡ true) × IsFaultyKey before name table key
IndexFaultIs before name table key fault.Limit =
    (index : IndexShape) × SaysIndex before name table key index
    × (is_next_index before.tables before.indexes index ≡ true) × (64 ≤ length before.indexes)
IndexFaultIs before name table key fault.Table = ⊥

abbrev pub LineFaultIs : Holds → Shape → Said → LineFault → Type 0
LineFaultIs holds before Nothing f = ⊥
LineFaultIs holds before (Table name) f = TableFaultIs holds before name f
LineFaultIs holds before (Index name table key) f = IndexFaultIs before name table key f
LineFaultIs holds before Other f = f ≡ fault.Word

-- the line of that number, counted from 1, has the fault, and those before it declare a shape
pub record IsFaultyLine (holds : Holds) (all : List (List ℕ)) (number : ℕ) (f : LineFault) : Type 0 where
  pub front : List (List ℕ)
  pub text : List ℕ
  pub behind : List (List ℕ)
  pub cut : all ≡ front ++ text ∷ behind
  pub place : number ≡ length front + 1
  pub shape : Shape
  pub declared : Declare holds front no_shape shape
  pub faulty : LineFaultIs holds shape (said_in_line text) f

-- so has the file of that name
pub record IsFaulty (holds : Holds) (name : List ℕ) (number : ℕ) (f : LineFault) : Type 0 where
  pub bytes : List ℕ
  pub held : holds name (Some bytes)
  pub line : IsFaultyLine holds (lines bytes) number f

-- the name is that of a table which one of the lines says
pub record IsTableSaid (all : List (List ℕ)) (name : List ℕ) : Type 0 where
  pub front : List (List ℕ)
  pub text : List ℕ
  pub behind : List (List ℕ)
  pub cut : all ≡ front ++ text ∷ behind
  pub says : said_in_line text ≡ Table name

-- so does a line of the file of that name
pub record IsTableSaidIn (holds : Holds) (name table : List ℕ) : Type 0 where
  pub bytes : List ℕ
  pub held : holds name (Some bytes)
  pub said : IsTableSaid (lines bytes) table

abbrev pub DeclFaultIs : Holds → List ℕ → DeclFault → Type 0
DeclFaultIs holds name Absent = holds name None
DeclFaultIs holds name TooLong = IsTooLong (holds name)
DeclFaultIs holds name (Line number f) = IsFaulty holds name number f

-- a fault that the declaration file has, a device failure that was counted, at the file or at that of a table which it
-- names, or memory
abbrev pub ShapeRefusalIs : Holds → List ℕ → ℕ → ℕ → ShapeRefusal → Type 0
ShapeRefusalIs holds name before after (Refused f) = DeclFaultIs holds name f
ShapeRefusalIs holds name before after Disk = Rose before after
ShapeRefusalIs holds name before after (TableDisk table) =
    IsTableSaidIn holds name table.items × Rose before after
ShapeRefusalIs holds name before after Memory = Unit {0}

-- the same of a line that says this, behind lines that declare the shape
abbrev pub LineRefusalIs : Holds → Shape → Said → ℕ → ℕ → LineRefusal → Type 0
LineRefusalIs holds shape says before after (line.Fault f) = LineFaultIs holds shape says f
LineRefusalIs holds shape says before after (line.Disk table) = (says ≡ Table table.items) × Rose before after
LineRefusalIs holds shape says before after line.Memory = Unit {0}

-- the same of a line that says an index, at which no device can fail
abbrev pub IndexRefusalIs : Shape → List ℕ → List ℕ → List ℕ → LineRefusal → Type 0
IndexRefusalIs shape name table key (line.Fault f) = IndexFaultIs shape name table key f
IndexRefusalIs shape name table key (line.Disk file) = ⊥
IndexRefusalIs shape name table key line.Memory = Unit {0}

-- why the fields of the table of that name aren't read: no file can have the name, or its file is no table's; a device
-- failure that was counted, or memory
abbrev pub FieldsRefusalIs : Holds → List ℕ → ℕ → ℕ → LineRefusal → Type 0
FieldsRefusalIs holds name before after (line.Fault f) = (f ≡ fault.Table)
    × (((¬ (IsUtf8 name)) ⊎ (8 < length name)) ⊎ LacksTable (holds (file_name name)))
FieldsRefusalIs holds name before after (line.Disk table) = (table.items ≡ name) × Rose before after
FieldsRefusalIs holds name before after line.Memory = Unit {0}

-- the same as that of a line, with the line's number
abbrev pub AtLineIs : Holds → ℕ → Shape → Said → ℕ → ℕ → ShapeRefusal → Type 0
AtLineIs holds number shape says before after (Refused Absent) = ⊥
AtLineIs holds number shape says before after (Refused TooLong) = ⊥
AtLineIs holds number shape says before after (Refused (Line told f)) =
    (told ≡ number) × LineFaultIs holds shape says f
AtLineIs holds number shape says before after Disk = ⊥
AtLineIs holds number shape says before after (TableDisk table) = (says ≡ Table table.items) × Rose before after
AtLineIs holds number shape says before after Memory = Unit {0}

-- the same of all lines
abbrev pub LinesRefusalIs : Holds → List (List ℕ) → ℕ → ℕ → ShapeRefusal → Type 0
LinesRefusalIs holds all before after (Refused Absent) = ⊥
LinesRefusalIs holds all before after (Refused TooLong) = ⊥
LinesRefusalIs holds all before after (Refused (Line number f)) = IsFaultyLine holds all number f
LinesRefusalIs holds all before after Disk = ⊥
LinesRefusalIs holds all before after (TableDisk table) = IsTableSaid all table.items × Rose before after
LinesRefusalIs holds all before after Memory = Unit {0}
