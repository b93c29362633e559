-- What commands make of a save that was stopped, or that met a power cut, wherever it was then.
use Rattle.std.specs.Prelude.{◌≡◌, ◌⊎◌, ◌++◌, ℕ, zero, suc, false, List, [], ◌∷◌, length, Some}
use Rattle.save_steps.specs.declared.steps.Step.{Step}
use Rattle.save_steps.specs.declared.steps.Step.TheVariants.{WriteNote, Sync, RemovePaper}
use Rattle.save_steps.specs.Devices.{Disk, WithSome, DidAllOn, BreaksOff}
use Rattle.save_steps.specs.Folders.{FolderStands, Renewal, Same}
use Rattle.save_steps.specs.Points.{IsAllOld, IsAllNew, next_steps}
use Rattle.save_steps.specs.Steps.{plan_steps, places, place_steps, save_steps}

-- whatever a power cut leaves is what processes see now, but for a draft
abbrev pub IsAtRest : Disk → Type 0
IsAtRest d = (t : FolderStands) → WithSome d.pending d.kept t → (t.paper ≡ d.seen.paper) × Same d.seen.file t.file

-- A command has ended with P, and no draft is left. The device has that too, so that the next save may begin.
pub record EndsWith (P : FolderStands → Type 0) (d : Disk) : Type 0 where
  pub now : P d.seen
  pub draft : d.seen.draft ≡ false
  pub rest : IsAtRest d

-- So many commands come in turn. Each takes the steps for what it sees, and is stopped or meets a power cut.
abbrev pub BreakOffAgain : (List ℕ → List ℕ) → List Renewal → ℕ → Disk → Disk → Type 0
BreakOffAgain sum changes zero d e = e ≡ d
BreakOffAgain sum changes (suc n) d e = (m : Disk) × (steps : List Step)
    × (next_steps sum changes d.seen ≡ Some steps) × BreaksOff changes steps d m × BreakOffAgain sum changes n m e

-- However often commands broke off, the next one knows its steps. It can do all of them, and where it has, P holds.
abbrev pub NextCompletes : (List ℕ → List ℕ) → List Renewal → Disk → (Disk → Type 0) → Type 0
NextCompletes sum changes d P = (n : ℕ) (e : Disk) → BreakOffAgain sum changes n d e
    → (steps : List Step) × (next_steps sum changes e.seen ≡ Some steps) × ((u : Disk) × DidAllOn changes steps e u)
    × ((u : Disk) → DidAllOn changes steps e u → P u)

-- a command has ended with P, and so do all that follow, whatever power cuts come between
abbrev pub EndsForGood : (List ℕ → List ℕ) → List Renewal → (FolderStands → Type 0) → Disk → Type 0
EndsForGood sum changes P d = EndsWith P d × NextCompletes sum changes d (EndsWith P)

-- Wherever a save breaks off, the next command that completes ends with all files old or all new, and then it stays
-- so. They are old if the save broke off before the note was being written, and new if the note had been written. A
-- save can be completed, and then all is new. All is new already once its note was removed, before the last sync.
pub record SurvivesPowerCuts (sum : List ℕ → List ℕ) (changes : List Renewal) (d : Disk) : Type 0 where
  pub ever : (e : Disk) → BreaksOff changes (save_steps (length changes)) d e
      → NextCompletes sum changes e (λ u. EndsForGood sum changes (IsAllOld changes d.seen) u
      ⊎ EndsForGood sum changes (IsAllNew changes d.seen) u)
  pub before : (e : Disk) → BreaksOff changes (plan_steps (length changes)) d e
      → NextCompletes sum changes e (EndsWith (IsAllOld changes d.seen))
  pub after : (m e : Disk) → DidAllOn changes (plan_steps (length changes) ++ WriteNote ∷ []) d m
      → BreaksOff changes (place_steps (length changes)) m e
      → NextCompletes sum changes e (EndsWith (IsAllNew changes d.seen))
  pub can : (e : Disk) × DidAllOn changes (save_steps (length changes)) d e
  pub whole : (e : Disk) → DidAllOn changes (save_steps (length changes)) d e
      → EndsWith (IsAllNew changes d.seen) e
  pub counts : (m e : Disk) → DidAllOn changes (plan_steps (length changes) ++ WriteNote ∷ []) d m
      → DidAllOn changes (places (length changes) ++ Sync ∷ RemovePaper ∷ []) m e
      → IsAllNew changes d.seen e.seen
