-- What stands in a folder, and what each step of a save does to it.
use Rattle.std.specs.Prelude.{◌≡◌, ◌≢◌, ◌⊎◌, ℕ, Bool, false, List, [], ◌∷◌, Option, Some, None, MatchOption}
use Rattle.std.specs.Prelude.{slice_get}
use Rattle.save_steps.specs.declared.steps.Paper.{Paper}
use Rattle.save_steps.specs.declared.steps.Paper.TheVariants.{Absent, Plan, Note}
use Rattle.save_steps.specs.declared.steps.Step.{Step}
use Rattle.save_steps.specs.declared.steps.Step.TheVariants.{WritePlan, Make, Sync, WriteNote, Place, Unmake}
use Rattle.save_steps.specs.declared.steps.Step.TheVariants.{RemovePaper, RemoveDraft}

-- what the file of each name holds, or that there is none
abbrev pub Files : Type 0
Files = List ℕ → Option (List ℕ)

-- the folder: which paper tells of a save, whether a draft of one stands, and all other files
pub record FolderStands : Type 0 where
  pub paper : Paper
  pub draft : Bool
  pub file : Files

-- a file that a save replaces: its name, the name of its new file, what it held at the load, and what it is to hold
pub record Renewal : Type 0 where
  pub name : List ℕ
  pub beside : List ℕ
  pub old : Option (List ℕ)
  pub new : List ℕ

-- no two of these names are one
pub record NamesAreApart (changes : List Renewal) : Type 0 where
  pub names : (j k : ℕ) (a b : Renewal) → slice_get changes j ≡ Some a → slice_get changes k ≡ Some b → j ≢ k
      → a.name ≢ b.name
  pub besides : (j k : ℕ) (a b : Renewal) → slice_get changes j ≡ Some a → slice_get changes k ≡ Some b → j ≢ k
      → a.beside ≢ b.beside
  pub crossed : (j k : ℕ) (a b : Renewal) → slice_get changes j ≡ Some a → slice_get changes k ≡ Some b
      → a.name ≢ b.beside

-- ---- what one call does to files

abbrev pub Same : Files → Files → Type 0
Same before after = (n : List ℕ) → after n ≡ before n

-- the file of the name holds this now, or is gone
pub record IsPut (before : Files) (name : List ℕ) (found : Option (List ℕ)) (after : Files) : Type 0 where
  pub here : after name ≡ found
  pub others : (n : List ℕ) → n ≢ name → after n ≡ before n

-- the first name's file has taken the place of the second's
pub record IsRenamed (before : Files) (first second : List ℕ) (after : Files) : Type 0 where
  pub there : after second ≡ before first
  pub gone : after first ≡ None
  pub others : (n : List ℕ) → n ≢ first → n ≢ second → after n ≡ before n

-- change k does this
abbrev pub OfRenewal : List Renewal → ℕ → (Renewal → Type 0) → Type 0
OfRenewal changes k P = (c : Renewal) × (slice_get changes k ≡ Some c) × P c

-- ---- what a step does

-- paper and draft stay
abbrev pub KeepsPapers : FolderStands → FolderStands → Type 0
KeepsPapers s t = (t.paper ≡ s.paper) × (t.draft ≡ s.draft)

-- a new file, if it stands, takes the file's place
abbrev pub IsPlacing : Files → Renewal → Files → Type 0
IsPlacing before c after =
    MatchOption (before c.beside) (Same before after) (λ _. IsRenamed before c.beside c.name after)

-- the whole step leads from the one folder to the other
abbrev pub Did : List Renewal → Step → FolderStands → FolderStands → Type 0
Did changes WritePlan s t = (t.paper ≡ Plan) × (t.draft ≡ false) × Same s.file t.file
Did changes (Make k) s t =
    KeepsPapers s t × OfRenewal changes k (λ c. IsPut s.file c.beside (Some c.new) t.file)
Did changes Sync s t = KeepsPapers s t × Same s.file t.file
Did changes WriteNote s t = (t.paper ≡ Note) × (t.draft ≡ false) × Same s.file t.file
Did changes (Place k) s t = KeepsPapers s t × OfRenewal changes k (λ c. IsPlacing s.file c t.file)
Did changes (Unmake k) s t = KeepsPapers s t × OfRenewal changes k (λ c. IsPut s.file c.beside None t.file)
Did changes RemoveDraft s t = (t.paper ≡ s.paper) × (t.draft ≡ false) × Same s.file t.file
Did changes RemovePaper s t = (t.paper ≡ Absent) × (t.draft ≡ s.draft) × Same s.file t.file

-- A stop before the step's last call leaves this. A new file may stand in part, and a draft may stand.
abbrev pub DidInPart : List Renewal → Step → FolderStands → FolderStands → Type 0
DidInPart changes (Make k) s t = (t.paper ≡ s.paper) × (Same s.file t.file ⊎
    OfRenewal changes k (λ c. (part : List ℕ) × IsPut s.file c.beside (Some part) t.file))
DidInPart changes step s t = (t.paper ≡ s.paper) × Same s.file t.file

-- a stop at any moment of the step leaves this
abbrev pub MayLeave : List Renewal → Step → FolderStands → FolderStands → Type 0
MayLeave changes step s t = DidInPart changes step s t ⊎ Did changes step s t

-- ---- what steps in a row do

-- all of them, where one step leads so from one state to another
abbrev pub InTurn : {A : Type 0} → (Step → A → A → Type 0) → List Step → A → A → Type 0
InTurn does [] s t = t ≡ s
InTurn {A} does (step ∷ steps) s t = (m : A) × does step s m × InTurn does steps m t

-- A stop at any moment leaves this: before the first, within one, or after the last. `leaves` says it of one step.
abbrev pub CutShort : {A : Type 0} → (does leaves : Step → A → A → Type 0) → List Step → A → A → Type 0
CutShort does leaves [] s t = t ≡ s
CutShort {A} does leaves (step ∷ steps) s t =
    leaves step s t ⊎ ((m : A) × does step s m × CutShort does leaves steps m t)

-- all of them, in a folder
abbrev pub DidAll : List Renewal → List Step → FolderStands → FolderStands → Type 0
DidAll changes = InTurn (Did changes)

-- a stop at any moment, in a folder
abbrev pub StopsAt : List Renewal → List Step → FolderStands → FolderStands → Type 0
StopsAt changes = CutShort (Did changes) (MayLeave changes)
