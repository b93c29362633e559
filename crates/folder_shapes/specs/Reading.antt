-- What is read of the files of a folder, and what is noted of those that aren't what their names say.
use Rattle.std.specs.Prelude.{◌≡◌, ◌≢◌, ◌≤◌, ◌⊎◌, ℕ, List, [], ◌∷◌, Some, None, length}
use Rattle.std.specs.Prelude.{IsUtf8, slice_index, slice_range}
use Rattle.dbf_file.specs.declared.fault.DbfFault.TheVariants as table_fault
use Rattle.dbf_file.specs.declared.stamp.Stamp.{Stamp}
use Rattle.dbf_file.specs.Faults.{first_fault}
use Rattle.dbf_file.specs.Tables.{DbfText}
use Rattle.file_access.specs.Holding.{Holds, IsTooLong}
use Rattle.key_lists.specs.KeyForm.{KeyForm}
use Rattle.key_lists.specs.Pairs.{Pair}
use Rattle.ndx_tree.specs.IndexFile.{IsIndexFile}
use Rattle.ndx_tree.specs.declared.fault.TreeFault.TheVariants as tree_fault
use Rattle.ndx_tree.specs.Walk.{IsFirstFault}
use Rattle.folder_shapes.specs.declared.found.FoundTable.{FoundTable}
use Rattle.folder_shapes.specs.declared.note.Note.{Note}
use Rattle.folder_shapes.specs.declared.note.Note.TheVariants as note
use Rattle.folder_shapes.specs.declared.unfit.Unfit.{Unfit}
use Rattle.folder_shapes.specs.declared.unfit.Unfit.TheVariants.{Noted, Memory}

-- what is noted is true, or memory was refused
abbrev pub UnfitIs : (Note → Type 0) → Unfit → Type 0
UnfitIs is (Noted n) = is n
UnfitIs is Memory = Unit {0}

-- ---- bytes

-- the file may hold these bytes, at most 64 MiB
pub record IsReadAs (holds : Holds) (name bytes : List ℕ) : Type 0 where
  pub held : holds name (Some bytes)
  pub short : length bytes ≤ 67108864

-- Why no bytes are read: the name is no text, there is no such file, it is too long, or the device failed.
abbrev pub NotRead : Holds → List ℕ → Note → Type 0
NotRead holds name note.NoText = IsUtf8 name → ⊥
NotRead holds name note.Gone = holds name None
NotRead holds name note.TooLong = IsTooLong (holds name)
NotRead holds name note.Unreadable = Unit {0}
NotRead holds name _ = ⊥

-- ---- tables

-- the bytes are the file of this table
abbrev pub IsTable : List ℕ → FoundTable → Type 0
IsTable bytes found = (stamp : Stamp) × DbfText found.table.structure found.table.rows stamp bytes

-- The bytes are no table's file of at most a million rows: by a first byte that isn't 3, which is told, or by another
-- fault.
abbrev pub NoTableIs : List ℕ → Note → Type 0
NoTableIs bytes (note.Version byte) =
    (first_fault 1000000 bytes ≡ Some table_fault.Version) × (slice_index bytes 0 ≡ byte)
NoTableIs bytes (note.NoTable fault) = first_fault 1000000 bytes ≡ Some fault
NoTableIs bytes _ = ⊥

-- the file may hold this table
abbrev pub IsTableFile : Holds → List ℕ → FoundTable → Type 0
IsTableFile holds name t = (bytes : List ℕ) × IsReadAs holds name bytes × IsTable bytes t

-- why it is no table's
abbrev pub NoTableFile : Holds → List ℕ → Note → Type 0
NoTableFile holds name told =
    NotRead holds name told ⊎ ((bytes : List ℕ) × IsReadAs holds name bytes × NoTableIs bytes told)

-- ---- indexes

-- The bytes are no index file: by keys of numbers, or by another fault.
abbrev pub NoIndexIs : List ℕ → Note → Type 0
NoIndexIs bytes (note.NoIndex fault) = IsFirstFault bytes fault
NoIndexIs bytes note.Numbers = IsFirstFault bytes tree_fault.Head × (slice_range bytes 16 18 ≢ 0 ∷ 0 ∷ [])
NoIndexIs bytes _ = ⊥

-- the file may hold this index
abbrev pub IsFileOfIndex : Holds → List ℕ → KeyForm → List Pair → Type 0
IsFileOfIndex holds name form pairs =
    (bytes : List ℕ) × IsReadAs holds name bytes × IsIndexFile bytes form pairs

-- why it is no index's
abbrev pub NoFileOfIndex : Holds → List ℕ → Note → Type 0
NoFileOfIndex holds name told =
    NotRead holds name told ⊎ ((bytes : List ℕ) × IsReadAs holds name bytes × NoIndexIs bytes told)
