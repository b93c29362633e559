-- Why a command isn't carried out. Each command tells faults of its own sort alone.
use Rattle.std.specs.Prelude.{◌≡◌, ◌<◌, ℕ, List, Option, Some, None, Err, length}
use Rattle.xcode.specs.declared.fault.CodeFault.{CodeFault}
use Rattle.xcode.specs.Decoding.{code_at}
use Rattle.dbf_file.specs.declared.fault.DbfFault.{DbfFault}
use Rattle.dbf_file.specs.Faults.{first_fault}
use Rattle.ndx_tree.specs.declared.fault.TreeFault.{TreeFault}
use Rattle.ndx_tree.specs.Walk.{IsFirstFault}
use Rattle.file_commands.specs.declared.refusal.Fault.{Fault}
use Rattle.file_commands.specs.declared.refusal.Fault.TheVariants.{Absent, TooLong, OfCode, OfTable, OfIndex}
use Rattle.file_commands.specs.declared.refusal.Refusal.{Refusal}
use Rattle.file_commands.specs.declared.refusal.Refusal.TheVariants.{Refused, Disk, Memory}
use Rattle.file_commands.specs.declared.status.Status.{Status}
use Rattle.file_commands.specs.declared.status.Status.TheVariants as status
use Rattle.file_access.specs.Holding.{IsTooLong, Rose}

-- a file that is no code file by this fault
pub record HasCodeFault (holds : Option (List ℕ) → Type 0) (fault : CodeFault) : Type 0 where
  pub bytes : List ℕ
  pub held : holds (Some bytes)
  pub faulty : code_at bytes ≡ Err fault

-- a file that is no table's by this fault, of at most a million rows, and one that is no index file by this fault
pub record IsNoTable (holds : Option (List ℕ) → Type 0) (fault : DbfFault) : Type 0 where
  pub bytes : List ℕ
  pub held : holds (Some bytes)
  pub faulty : first_fault 1000000 bytes ≡ Some fault

pub record IsNoIndex (holds : Option (List ℕ) → Type 0) (fault : TreeFault) : Type 0 where
  pub bytes : List ℕ
  pub held : holds (Some bytes)
  pub faulty : IsFirstFault bytes fault

-- what may be told of any file
abbrev pub FileFault : (Option (List ℕ) → Type 0) → Fault → Type 0
FileFault holds Absent = holds None
FileFault holds TooLong = IsTooLong holds
FileFault holds _ = ⊥

-- of a code file
abbrev pub CodeFileFault : (Option (List ℕ) → Type 0) → Fault → Type 0
CodeFileFault holds (OfCode fault) = HasCodeFault holds fault
CodeFileFault holds fault = FileFault holds fault

-- of a table's file
abbrev pub TableFault : (Option (List ℕ) → Type 0) → Fault → Type 0
TableFault holds (OfTable fault) = IsNoTable holds fault
TableFault holds fault = FileFault holds fault

-- of an index file
abbrev pub IndexFault : (Option (List ℕ) → Type 0) → Fault → Type 0
IndexFault holds (OfIndex fault) = IsNoIndex holds fault
IndexFault holds fault = FileFault holds fault

-- why a command isn't carried out: a fault of the file of that name which the command may tell, a device failure that
-- was counted, or memory
abbrev pub RefusalIs : (Fault → Type 0) → ℕ → ℕ → List ℕ → Refusal → Type 0
RefusalIs tells before after name (Refused told fault) = (told.now ≡ name) × tells fault
RefusalIs tells before after name (Disk told) = (told.now ≡ name) × Rose before after
RefusalIs tells before after name Memory = Unit {0}

-- how the program exits where a command isn't carried out
abbrev pub status_of : Refusal → Status
status_of (Refused told fault) = status.Refused
status_of (Disk told) = status.Disk
status_of Memory = status.Memory
