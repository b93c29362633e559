-- A folder on a device, what each step of a save does to it, and what a power cut leaves.
--
-- Processes see a change of names at once. The device has it for certain once the folder was synced. Before that a
-- power cut may leave any of the changes made since the last sync, each of them whole.
use Rattle.std.specs.Prelude.{◌≡◌, ◌⊎◌, ◌++◌, ℕ, Bool, true, false, List, [], ◌∷◌, Option, Some, None, MatchOption}
use Rattle.std.specs.Prelude.{if◌then◌else◌}
use Rattle.std.specs.Str.{bytes_eq}
use Rattle.save_steps.specs.declared.steps.Paper.{Paper}
use Rattle.save_steps.specs.declared.steps.Paper.TheVariants.{Absent, Plan, Note}
use Rattle.save_steps.specs.declared.steps.Step.{Step}
use Rattle.save_steps.specs.declared.steps.Step.TheVariants.{WritePlan, Make, Sync, WriteNote, Place, Unmake}
use Rattle.save_steps.specs.declared.steps.Step.TheVariants.{RemovePaper, RemoveDraft}
use Rattle.save_steps.specs.Folders.{Files, FolderStands, Renewal, OfRenewal, Did, DidInPart, InTurn, CutShort}

-- ---- changes of names

-- What one call changes among the names. The bytes are those that the device has of the file.
pub data NameChange : Type 0 where
  -- a draft gets its name
  DraftMade : NameChange
  -- the draft is renamed to the name of the plan or the note: it takes that name and frees its own at once
  DraftPlaced : Paper → NameChange
  DraftGone : NameChange
  PaperGone : NameChange
  -- a file of these bytes gets this name
  FileMade : List ℕ → List ℕ → NameChange
  -- the file of the first name, of these bytes, is renamed to the second: it takes that name and frees its own at once
  FileMoved : List ℕ → List ℕ → List ℕ → NameChange
  FileGone : List ℕ → NameChange

-- the files with this under the name
unfoldable pub put_under : Files → List ℕ → Option (List ℕ) → Files
put_under files name found n = if bytes_eq n name then found else files n

-- the folder with a change
abbrev pub with_change : NameChange → FolderStands → FolderStands
with_change DraftMade s = record s { draft = true }
with_change (DraftPlaced paper) s = record s { paper = paper; draft = false }
with_change DraftGone s = record s { draft = false }
with_change PaperGone s = record s { paper = Absent }
with_change (FileMade name bytes) s = record s { file = put_under s.file name (Some bytes) }
with_change (FileMoved first second bytes) s =
    record s { file = put_under (put_under s.file second (Some bytes)) first None }
with_change (FileGone name) s = record s { file = put_under s.file name None }

-- the folder with all of these changes, in their order
abbrev pub with_all : List NameChange → FolderStands → FolderStands
with_all [] s = s
with_all (change ∷ changes) s = with_all changes (with_change change s)

-- this is the folder with some of these changes, in their order
abbrev pub WithSome : List NameChange → FolderStands → FolderStands → Type 0
WithSome [] s t = t ≡ s
WithSome (change ∷ changes) s t = WithSome changes s t ⊎ WithSome changes (with_change change s) t

-- ---- the folder on its device

-- What processes see, what the device had after the last sync, and the changes of names since then, in their order. A
-- file whose making was stopped may hold other bytes on the device than processes see.
pub record Disk : Type 0 where
  pub seen : FolderStands
  pub kept : FolderStands
  pub pending : List NameChange

-- what the device has after a sync
abbrev pub synced : Disk → FolderStands
synced d = with_all d.pending d.kept

-- The power is cut: the device has any of the changes, each whole, and processes then see what it has.
pub record IsPowerCut (d e : Disk) : Type 0 where
  pub kept : WithSome d.pending d.kept e.kept
  pub seen : e.seen ≡ e.kept
  pub pending : e.pending ≡ []

-- these changes were made, and no sync
abbrev pub IsPending : Disk → List NameChange → Disk → Type 0
IsPending d made e = (e.kept ≡ d.kept) × (e.pending ≡ d.pending ++ made)

-- these changes were made, and the folder was synced
abbrev pub IsSynced : Disk → List NameChange → Disk → Type 0
IsSynced d made e = (e.kept ≡ with_all (d.pending ++ made) d.kept) × (e.pending ≡ [])

-- ---- what a step does

-- Which changes of names a whole step makes, where a sync before it would bring this folder to the device. A new file
-- holds its bytes on the device too, since they are brought there before the step ends. A file that takes a place keeps
-- the bytes that the device has of it. The removal of a file counts also where there is none.
abbrev pub MakesChanges : List Renewal → Step → FolderStands → List NameChange → Type 0
MakesChanges changes WritePlan synced made = made ≡ DraftMade ∷ DraftPlaced Plan ∷ []
MakesChanges changes (Make k) synced made = OfRenewal changes k (λ c. made ≡ FileMade c.beside c.new ∷ [])
MakesChanges changes Sync synced made = made ≡ []
MakesChanges changes WriteNote synced made = made ≡ DraftMade ∷ DraftPlaced Note ∷ []
MakesChanges changes (Place k) synced made = OfRenewal changes k (λ c.
    MatchOption (synced.file c.beside) (made ≡ []) (λ bytes. made ≡ FileMoved c.beside c.name bytes ∷ []))
MakesChanges changes (Unmake k) synced made = OfRenewal changes k (λ c. made ≡ FileGone c.beside ∷ [])
MakesChanges changes RemoveDraft synced made = made ≡ DraftGone ∷ []
MakesChanges changes RemovePaper synced made = made ≡ PaperGone ∷ []

-- Which changes a step has made that was stopped before its last call: none, a draft that isn't renamed yet, or a new
-- file that holds any bytes on the device.
abbrev pub MakesInPart : List Renewal → Step → List NameChange → Type 0
MakesInPart changes WritePlan made = (made ≡ []) ⊎ (made ≡ DraftMade ∷ [])
MakesInPart changes (Make k) made =
    (made ≡ []) ⊎ OfRenewal changes k (λ c. (part : List ℕ) × (made ≡ FileMade c.beside part ∷ []))
MakesInPart changes WriteNote made = (made ≡ []) ⊎ (made ≡ DraftMade ∷ [])
MakesInPart changes step made = made ≡ []

-- the step ends with a sync of the folder
abbrev pub ends_synced : Step → Bool
ends_synced WritePlan = true
ends_synced Sync = true
ends_synced WriteNote = true
ends_synced (Make k) = false
ends_synced (Place k) = false
ends_synced (Unmake k) = false
ends_synced RemoveDraft = false
ends_synced RemovePaper = false

-- these changes were made, and the folder was synced where the step ends so
abbrev pub LeavesOn : Bool → Disk → List NameChange → Disk → Type 0
LeavesOn true = IsSynced
LeavesOn false = IsPending

-- the whole step, but for its sync
pub record IsMade (changes : List Renewal) (step : Step) (d : Disk) (made : List NameChange) (e : Disk) : Type 0 where
  pub makes : MakesChanges changes step (synced d) made
  pub seen : Did changes step d.seen e.seen

-- the whole step leads from the one to the other
pub record DidOn (changes : List Renewal) (step : Step) (d e : Disk) : Type 0 where
  pub made : List NameChange
  pub is : IsMade changes step d made e
  pub left : LeavesOn (ends_synced step) d made e

-- A stop at any moment of the step leaves this. A sync that was stopped, or that failed, counts as none. Of a step in
-- part, each set of changes may meet each thing seen, which is more than can happen.
pub data MayLeaveOn (changes : List Renewal) (step : Step) (d e : Disk) : Type 0 where
  InPart : (made : List NameChange) → MakesInPart changes step made → DidInPart changes step d.seen e.seen
      → IsPending d made e → MayLeaveOn changes step d e
  NotSynced : (made : List NameChange) → IsMade changes step d made e → IsPending d made e
      → MayLeaveOn changes step d e
  InWhole : DidOn changes step d e → MayLeaveOn changes step d e

-- ---- what steps in a row do

-- all of them
abbrev pub DidAllOn : List Renewal → List Step → Disk → Disk → Type 0
DidAllOn changes = InTurn (DidOn changes)

-- they are stopped at any moment
abbrev pub StopsOn : List Renewal → List Step → Disk → Disk → Type 0
StopsOn changes = CutShort (DidOn changes) (MayLeaveOn changes)

-- they are stopped at any moment, or the power is cut at any moment
abbrev pub BreaksOff : List Renewal → List Step → Disk → Disk → Type 0
BreaksOff changes steps d e = StopsOn changes steps d e ⊎ ((m : Disk) × StopsOn changes steps d m × IsPowerCut m e)
