-- What the sessions of a conversation promise together.
use Rattle.std.specs.Prelude.{◌≡◌, ◌≢◌, ◌≤◌, ◌⊎◌, ◌++◌, ℕ, List, [], ◌∷◌, Some, false, true, ⊤}
use Rattle.std.specs.List.{AllByRecursion}
use Rattle.journal_steps.specs.Folder.{Folder, Moment, RemoveNote, Session, LeftBy, are_old, behind_deed, changed}
use Rattle.journal_steps.specs.Folder.{Visit, Talks, Forgets, Changes, PutsBack, empty_folder, put_back, whole_lines}

-- no LF is in the line
abbrev pub IsClean : List ℕ → Type 0
IsClean line = AllByRecursion (λ byte. byte ≢ 10) line

-- no line that is typed has LF in it
abbrev pub TypesClean : Visit → Type 0
TypesClean (Talks s) = AllByRecursion IsClean s.typed
TypesClean _ = ⊤

abbrev pub AreClean : List Visit → Type 0
AreClean visits = AllByRecursion TypesClean visits

-- the journal of the folder holds these lines first of all
pub record LinesStand (f : Folder) (lines : List (List ℕ)) : Type 0 where
  pub bytes : List ℕ
  pub journal : f.journal ≡ Some bytes
  pub rest : List (List ℕ)
  pub first : whole_lines bytes ≡ lines ++ rest

-- Visits in turn lead from a folder to another one. The lists of lines are those that each session's machine took.
abbrev pub Passed : List Visit → Folder → List (List (List ℕ)) → Folder → Type 0
Passed [] f all g = (all ≡ []) × (g ≡ f)
Passed (Talks s ∷ vs) f all g =
    (m : Moment) × (rest : List (List (List ℕ))) × LeftBy s f m × (all ≡ m.taken ∷ rest) × Passed vs m.folder rest g
Passed (Forgets ∷ vs) f all g = Passed vs (behind_deed RemoveNote f) all g
Passed (Changes ∷ vs) f all g = Passed vs (changed f) all g
Passed (PutsBack ∷ vs) f all g = Passed vs (put_back f) all g

-- a machine took no lines, or they are kept
abbrev pub NothingLost : Folder → List (List ℕ) → Type 0
NothingLost f lines = (lines ≡ []) ⊎ LinesStand f lines

pub record IsKeptAndSavedOnce (visits : List Visit) : Type 0 where
  -- no line that a machine has taken is lost
  pub kept : (all : List (List (List ℕ))) (g : Folder) → Passed visits empty_folder all g
      → AllByRecursion (NothingLost g) all
  -- what was typed is saved in the tables once at most
  pub once : (all : List (List (List ℕ))) (g : Folder) → Passed visits empty_folder all g → g.saves ≤ 1
  -- over tables in which it is saved no machine takes a line
  pub then_none : (all : List (List (List ℕ))) (f : Folder) → Passed visits empty_folder all f → f.saves ≡ 1
      → (s : Session) (m : Moment) → LeftBy s f m → m.taken ≡ []
  -- nor does one that goes on over other tables than those of the beginning
  pub unchanged : (all : List (List (List ℕ))) (f : Folder) → Passed visits empty_folder all f
      → are_old f.tables ≡ false → (s : Session) (m : Moment) → s.goes_on ≡ true → LeftBy s f m → m.taken ≡ []
