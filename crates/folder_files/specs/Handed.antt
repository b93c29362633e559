-- What is seen of a folder, and of one whose files are replaced all together.
use Rattle.std.specs.Prelude.{◌<◌, ℕ, List, Option, Some, None, codes, length, map, slice_get, string_bytes, ⊤}
use Rattle.save_papers.specs.Papers.{seal_of}
use Rattle.journal_papers.specs.declared.sums.FileSum.{FileSum}
use Rattle.folder_files.specs.declared.folder.Folder.{Folder}
use Rattle.folder_files.specs.declared.replacing.Unreplaced.{Unreplaced}
use Rattle.folder_files.specs.declared.saving.Pending.{Pending}
use Rattle.folder_files.specs.declared.saving.SavingFolder.{SavingFolder}
use Rattle.folder_files.specs.declared.saving.Unsaved.{Unsaved}
use Rattle.folder_files.specs.declared.saving.Unsaved.TheVariants.{Changed, Disk, Backup, Cut, Memory}
use Rattle.folder_files.specs.declared.targets.Hindrance.{Hindrance}
use Rattle.folder_files.specs.declared.targets.Hindrance.TheVariants as hindrance

-- how often the device failed
abbrev pub failures_of : {R L : Type 0} → Folder R L → ℕ
failures_of folder = folder.failures

-- why the last file that wasn't replaced isn't
abbrev pub why_unreplaced : {R L : Type 0} → Folder R L → Option Unreplaced
why_unreplaced folder = folder.unreplaced

-- the same of a folder whose files are replaced all together
abbrev pub failures_behind : {R L : Type 0} → SavingFolder R L → ℕ
failures_behind saving = failures_of saving.folder

-- why a file wasn't read
abbrev pub why_unread : {R L : Type 0} → SavingFolder R L → Option Hindrance
why_unread saving = saving.hindrance

-- how many files are to be replaced
abbrev pub count_handed : {R L : Type 0} → SavingFolder R L → ℕ
count_handed saving = length saving.pending.items

-- the name of a file by its number, and a hyphen where there is none
abbrev pub name_or_hyphen : Option Pending → List ℕ
name_or_hyphen None = codes "-"
name_or_hyphen (Some pending) = string_bytes pending.name

abbrev pub name_handed : {R L : Type 0} → SavingFolder R L → ℕ → List ℕ
name_handed saving file = name_or_hyphen (slice_get saving.pending.items file)

-- a file's name and its sum, and those of a file that is to be replaced
abbrev pub sum_told : FileSum → List ℕ × Option (List ℕ)
sum_told file = (string_bytes file.name, file.sum)

abbrev pub sum_to_be : Pending → List ℕ × Option (List ℕ)
sum_to_be pending = (string_bytes pending.name, Some (seal_of pending.bytes.items))

abbrev pub sums_to_be : {R L : Type 0} → SavingFolder R L → List (List ℕ × Option (List ℕ))
sums_to_be saving = map sum_to_be saving.pending.items

-- a failure at a file is one at a file of these numbers
abbrev pub FailsBelow : ℕ → Unsaved → Type 0
FailsBelow count (Changed file) = file < count
FailsBelow count (Disk file) = file < count
FailsBelow count (Cut file) = file < count
FailsBelow count Backup = ⊤
FailsBelow count Memory = ⊤

-- another's file stands where the plan would, or none can be made
abbrev pub HindersPlan : Hindrance → Type 0
HindersPlan hindrance.Draft = ⊤
HindersPlan hindrance.NoRoom = ⊤
HindersPlan hindrance.Taken = ⊥
HindersPlan hindrance.NoLocks = ⊥
HindersPlan hindrance.LockFile = ⊥
HindersPlan hindrance.Closed = ⊥
HindersPlan (hindrance.Harm harm) = ⊥
HindersPlan hindrance.Frozen = ⊥
HindersPlan hindrance.LeavesFolder = ⊥
HindersPlan hindrance.Twice = ⊥
HindersPlan hindrance.Disk = ⊥
