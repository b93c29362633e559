-- Where a stopped save stands, and what the next command makes of it.
use Rattle.std.specs.Prelude.{◌≡◌, ◌≢◌, ◌⊎◌, ◌++◌, ℕ, zero, suc, false, List, [], ◌∷◌, length, map, Option, Some, None}
use Rattle.std.specs.Prelude.{slice_get}
use Rattle.std.specs.Option.{option_map}
use Rattle.save_steps.specs.declared.slots.Slot.{Slot}
use Rattle.save_steps.specs.declared.steps.Paper.TheVariants.{Absent}
use Rattle.save_steps.specs.declared.steps.Step.{Step}
use Rattle.save_steps.specs.declared.steps.Step.TheVariants.{WriteNote}
use Rattle.save_steps.specs.Finishing.{slot_of, finish_of}
use Rattle.save_steps.specs.Folders.{FolderStands, Renewal, DidAll, MayLeave, StopsAt}
use Rattle.save_steps.specs.Steps.{plan_steps, place_steps, save_steps}

-- the name isn't that of a new file
abbrev pub IsNoNew : List Renewal → List ℕ → Type 0
IsNoNew changes n = (k : ℕ) (c : Renewal) → slice_get changes k ≡ Some c → n ≢ c.beside

-- the name is that of no file which a save replaces, and of no new one
abbrev pub IsElse : List Renewal → List ℕ → Type 0
IsElse changes n = (k : ℕ) (c : Renewal) → slice_get changes k ≡ Some c → (n ≢ c.name) × (n ≢ c.beside)

-- a save may begin: no paper tells of another, each file is as at the load, and no file has a new file's name
pub record IsReady (changes : List Renewal) (start : FolderStands) : Type 0 where
  pub paper : start.paper ≡ Absent
  pub old : (k : ℕ) (c : Renewal) → slice_get changes k ≡ Some c → start.file c.name ≡ c.old
  pub free : (k : ℕ) (c : Renewal) → slice_get changes k ≡ Some c → start.file c.beside ≡ None

-- nothing tells of the save, no new file stands, and each other file is as it was
pub record IsAllOld (changes : List Renewal) (start now : FolderStands) : Type 0 where
  pub paper : now.paper ≡ Absent
  pub free : (k : ℕ) (c : Renewal) → slice_get changes k ≡ Some c → now.file c.beside ≡ None
  pub others : (n : List ℕ) → IsNoNew changes n → now.file n ≡ start.file n

-- the file is the new one, and nothing stands beside it
abbrev pub IsPlaced : FolderStands → Renewal → Type 0
IsPlaced now c = (now.file c.name ≡ Some c.new) × (now.file c.beside ≡ None)

-- nothing tells of the save, each file is new with nothing beside it, and each other file is as it was
pub record IsAllNew (changes : List Renewal) (start now : FolderStands) : Type 0 where
  pub paper : now.paper ≡ Absent
  pub each : (k : ℕ) (c : Renewal) → slice_get changes k ≡ Some c → IsPlaced now c
  pub others : (n : List ℕ) → IsElse changes n → now.file n ≡ start.file n

-- ---- the next command

-- what stands at a file, by sums
abbrev pub slot_now : (List ℕ → List ℕ) → FolderStands → Renewal → Slot
slot_now sum now c =
    slot_of (option_map sum (now.file c.name)) (option_map sum (now.file c.beside)) (option_map sum c.old) (sum c.new)

-- the steps that the next command takes where it finds this
abbrev pub next_steps : (List ℕ → List ℕ) → List Renewal → FolderStands → Option (List Step)
next_steps sum changes now = finish_of now.paper (map (slot_now sum now) changes)

-- so many commands come in turn, and each is stopped at any moment of its finishing
abbrev pub StopsAgain : (List ℕ → List ℕ) → List Renewal → ℕ → FolderStands → FolderStands → Type 0
StopsAgain sum changes zero s t = t ≡ s
StopsAgain sum changes (suc n) s t = (m : FolderStands) × (steps : List Step) × (next_steps sum changes s ≡ Some steps)
    × StopsAt changes steps s m × StopsAgain sum changes n m t

-- The next command knows how to finish, however often commands before it were stopped. It can do all steps, and they
-- lead to P with no draft left.
abbrev pub NextEnds : (List ℕ → List ℕ) → List Renewal → FolderStands → (FolderStands → Type 0) → Type 0
NextEnds sum changes s P = (n : ℕ) (t : FolderStands) → StopsAgain sum changes n s t
    → (steps : List Step) × (next_steps sum changes t ≡ Some steps) × ((u : FolderStands) × DidAll changes steps t u)
    × ((u : FolderStands) → DidAll changes steps t u → P u × (u.draft ≡ false))

-- ---- the promise

-- From every point of a save before its note the next command ends with all files old, and from every point behind it
-- with all new. A stop while the note takes the plan's place leaves one of the two. A save that isn't stopped can be
-- done, and ends with all new.
pub record IsAllOrNothing (sum : List ℕ → List ℕ) (changes : List Renewal) (start : FolderStands) : Type 0 where
  pub before : (s : FolderStands) → StopsAt changes (plan_steps (length changes)) start s
      → NextEnds sum changes s (IsAllOld changes start)
  pub between : (m s : FolderStands) → DidAll changes (plan_steps (length changes)) start m
      → MayLeave changes WriteNote m s
      → NextEnds sum changes s (IsAllOld changes start) ⊎ NextEnds sum changes s (IsAllNew changes start)
  pub behind : (m s : FolderStands) → DidAll changes (plan_steps (length changes) ++ WriteNote ∷ []) start m
      → StopsAt changes (place_steps (length changes)) m s → NextEnds sum changes s (IsAllNew changes start)
  pub can : (s : FolderStands) × DidAll changes (save_steps (length changes)) start s
  pub whole : (s : FolderStands) → DidAll changes (save_steps (length changes)) start s → IsAllNew changes start s
