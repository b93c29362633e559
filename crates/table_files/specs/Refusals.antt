-- Why tables and indexes aren't loaded or saved.
use Rattle.std.specs.Prelude.{◌≡◌, ◌<◌, ◌≤◌, ℕ, List, Option, Some, None, length, slice_get, take, ⊤}
use Rattle.std.specs.List.{AllZip}
use Rattle.dbf_file.specs.declared.stamp.Stamp.{Stamp}
use Rattle.dbf_file.specs.Faults.{first_fault}
use Rattle.dbf_file.specs.Rows.{Row}
use Rattle.dbf_file.specs.Tables.{StructureState, TableState, DbfText}
use Rattle.file_access.specs.Holding.{Holds}
use Rattle.shape.specs.declared.indexes.IndexShape.{IndexShape}
use Rattle.shape.specs.declared.tables.TableShape.{TableShape}
use Rattle.shape.specs.declared.whole.Shape.{Shape}
use Rattle.table_files.specs.declared.refusal.FilesRefusal.{FilesRefusal}
use Rattle.table_files.specs.declared.refusal.FilesRefusal.TheVariants.{Refused, Disk, Memory}
use Rattle.table_files.specs.declared.refusal.TableFault.{TableFault}
use Rattle.table_files.specs.declared.refusal.TableFault.TheVariants.{Absent, TooLong, OfTable, Structure}
use Rattle.table_files.specs.Loading.{AreDeclared, IsTableOf}
use Rattle.table_files.specs.Names.{table_file, index_file, files_of}

-- bytes of a table of no more rows than the limit, with other fields than those declared
pub record HasOtherFields (limit : ℕ) (s : TableShape) (bytes : List ℕ) : Type 0 where
  pub structure : StructureState
  pub rows : List Row
  pub stamp : Stamp
  pub text : DbfText structure rows stamp bytes
  pub few : length rows ≤ limit
  pub other : AreDeclared structure.fields s.fields → ⊥

-- what is wrong with bytes of at most 64 MiB
abbrev pub FaultIn : ℕ → TableShape → List ℕ → TableFault → Type 0
FaultIn limit s bytes Absent = ⊥
FaultIn limit s bytes TooLong = ⊥
FaultIn limit s bytes (OfTable fault) = first_fault limit bytes ≡ Some fault
FaultIn limit s bytes Structure = HasOtherFields limit s bytes

-- bytes that a file may hold, of which a fact holds
pub record MayHold (holds : Option (List ℕ) → Type 0) (P : List ℕ → Type 0) : Type 0 where
  pub bytes : List ℕ
  pub held : holds (Some bytes)
  pub fact : P bytes

-- bytes of at most 64 MiB, and longer ones
abbrev pub IsShort : List ℕ → Type 0
IsShort bytes = length bytes ≤ 67108864

abbrev pub IsLong : List ℕ → Type 0
IsLong bytes = 67108864 < length bytes

-- what is wrong with a table's file, which may hold that
abbrev pub IsTableFault : (Option (List ℕ) → Type 0) → ℕ → TableShape → TableFault → Type 0
IsTableFault holds limit s Absent = holds None
IsTableFault holds limit s TooLong = MayHold holds IsLong
IsTableFault holds limit s (OfTable fault) = MayHold holds (λ bytes. IsShort bytes
    × FaultIn limit s bytes (OfTable fault))
IsTableFault holds limit s Structure = MayHold holds (λ bytes. IsShort bytes × FaultIn limit s bytes Structure)

-- the same where bytes are there, of a file of this name
abbrev pub RefusedIn : ℕ → TableShape → List ℕ → List ℕ → FilesRefusal → Type 0
RefusedIn limit s file bytes (Refused name fault) = (name.bytes ≡ file) × FaultIn limit s bytes fault
RefusedIn limit s file bytes (Disk name) = ⊥
RefusedIn limit s file bytes Memory = ⊤

-- why there are no bytes of a file of this name
abbrev pub IsMissing : (Option (List ℕ) → Type 0) → TableFault → Type 0
IsMissing holds Absent = holds None
IsMissing holds TooLong = MayHold holds IsLong
IsMissing holds (OfTable fault) = ⊥
IsMissing holds Structure = ⊥

abbrev pub BytesRefused : Holds → List ℕ → Type 0 → FilesRefusal → Type 0
BytesRefused holds file broke (Refused name fault) = (name.bytes ≡ file) × IsMissing (holds file) fault
BytesRefused holds file broke (Disk name) = (name.bytes ≡ file) × broke
BytesRefused holds file broke Memory = ⊤

-- why a declared table isn't loaded; `broke` says that the device failed
abbrev pub TableRefused : Holds → ℕ → TableShape → Type 0 → FilesRefusal → Type 0
TableRefused holds limit s broke (Refused name fault) =
    (name.bytes ≡ table_file s) × IsTableFault (holds (table_file s)) limit s fault
TableRefused holds limit s broke (Disk name) = (name.bytes ≡ table_file s) × broke
TableRefused holds limit s broke Memory = ⊤

-- a file is that of a declared table, with this fault, and the tables before it were read
pub record IsRefusedTable (holds : Holds) (shape : Shape) (limit : ℕ) (file : List ℕ)
    (fault : TableFault) : Type 0 where
  pub t : ℕ
  pub s : TableShape
  pub declared : slice_get shape.tables t ≡ Some s
  pub tables : List TableState
  pub earlier : AllZip (IsTableOf holds limit) (take t shape.tables) tables
  pub named : file ≡ table_file s
  pub fault_is : IsTableFault (holds (table_file s)) limit s fault

-- why what is declared isn't loaded: the first table with a fault has it, or the device failed at a declared file
abbrev pub LoadRefused : Holds → Shape → ℕ → Type 0 → FilesRefusal → Type 0
LoadRefused holds shape limit broke (Refused name fault) = IsRefusedTable holds shape limit name.bytes fault
LoadRefused holds shape limit broke (Disk name) = (k : ℕ) × (slice_get (files_of shape) k ≡ Some name.bytes) × broke
LoadRefused holds shape limit broke Memory = ⊤

-- why the list of a declared index isn't loaded, and those of all declared indexes
abbrev pub ListRefused : IndexShape → Type 0 → FilesRefusal → Type 0
ListRefused x broke (Refused name fault) = ⊥
ListRefused x broke (Disk name) = (name.bytes ≡ index_file x) × broke
ListRefused x broke Memory = ⊤

abbrev pub ListsRefused : Shape → Type 0 → FilesRefusal → Type 0
ListsRefused shape broke (Refused name fault) = ⊥
ListsRefused shape broke (Disk name) = (k : ℕ) × (slice_get (files_of shape) k ≡ Some name.bytes) × broke
ListsRefused shape broke Memory = ⊤
