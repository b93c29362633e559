-- Each step can be done on a device: what the laws say of steps in a row isn't said of none.
use Rattle.std.proofs.Common.{◌≡◌, ℕ, zero, suc, ◌<◌, Bool, true, false, List, [], ◌∷◌, ◌++◌, Option, Some, None}
use Rattle.std.proofs.Common.{length, slice_get, refl, sym, subst, arith}
use Rattle.std.specs.List.{AllByRecursion}
use Rattle.std.specs.Prelude.{MatchOption, ◌≤◌}
use Rattle.save_steps.specs.declared.steps.Paper.TheVariants.{Plan, Note}
use Rattle.save_steps.specs.declared.steps.Step.{Step}
use Rattle.save_steps.specs.declared.steps.Step.TheVariants.{WritePlan, Make, Sync, WriteNote, Place, Unmake}
use Rattle.save_steps.specs.declared.steps.Step.TheVariants.{RemovePaper, RemoveDraft}
use Rattle.save_steps.specs.Devices.{NameChange, DraftMade, DraftPlaced, DraftGone, PaperGone, FileMade, FileMoved}
use Rattle.save_steps.specs.Devices.{FileGone, with_all, Disk, synced, LeavesOn, MakesChanges, ends_synced, DidOn, DidAllOn}
use Rattle.save_steps.specs.Folders.{FolderStands, Renewal, NamesAreApart, Did}
use Rattle.save_steps.specs.Steps.{for_each, make_steps, places, unmakes, end_steps, place_steps, save_steps}
use Rattle.save_steps.specs.Steps.{back_steps, on_steps, without_steps}
use Rattle.save_steps.proofs.Held.{makes_is}
use Rattle.save_steps.proofs.Runs.{all_and}

-- the step is of one of the first n changes, or of none
abbrev pub IsWithin : ℕ → Step → Type 0
IsWithin n (Make k) = k < n
IsWithin n (Place k) = k < n
IsWithin n (Unmake k) = k < n
IsWithin n step = Unit {0}

-- a change that is there
there : (cs : List Renewal) (k : ℕ) → k < length cs → (c : Renewal) × (slice_get cs k ≡ Some c)
there [] k below = absurd (omega arith)
there (c ∷ cs) zero below = (c, refl)
there (c ∷ cs) (suc k) below = there cs k (omega arith)

-- whatever stands beside the file
pub placed : (c : Renewal) (found : Option (List ℕ)) → (made : List NameChange)
    × MatchOption found (made ≡ []) (λ bytes. made ≡ FileMoved c.beside c.name bytes ∷ [])
placed c None = ([], refl)
placed c (Some bytes) = (FileMoved c.beside c.name bytes ∷ [], refl)

module _ (cs : List Renewal) where
  can_make : (x : Step) → IsWithin (length cs) x → (s : FolderStands) → (made : List NameChange) × MakesChanges cs x s made
  can_make WritePlan h s = (DraftMade ∷ DraftPlaced Plan ∷ [], refl)
  can_make WriteNote h s = (DraftMade ∷ DraftPlaced Note ∷ [], refl)
  can_make Sync h s = ([], refl)
  can_make RemoveDraft h s = (DraftGone ∷ [], refl)
  can_make RemovePaper h s = (PaperGone ∷ [], refl)
  can_make (Make k) h s = let c = there cs k h in (FileMade c.0.beside c.0.new ∷ [], (c.0, c.1, refl))
  can_make (Unmake k) h s = let c = there cs k h in (FileGone c.0.beside ∷ [], (c.0, c.1, refl))
  can_make (Place k) h s =
      let c = there cs k h in
      let made = placed c.0 (s.file c.0.beside) in
      (made.0, (c.0, c.1, made.1))

  -- what is done to what is seen is done on the device
  pub do_on : (x : Step) (d : Disk) (t : FolderStands) (made : List NameChange) → MakesChanges cs x (synced d) made
      → Did cs x d.seen t → (e : Disk) × DidOn cs x d e × (e.seen ≡ t)
  do_on x d t made makes did =
      let e = at (ends_synced x) in (
        e.0,
        record {
          made = made;
          is = record { makes = makes; seen = subst (Did cs x d.seen) (sym e.2) did };
          left = e.1;
        },
        e.2,
      )
    where
      at : (b : Bool) → (e : Disk) × LeavesOn b d made e × (e.seen ≡ t)
      at true = (record { seen = t; kept = with_all (d.pending ++ made) d.kept; pending = [] }, (refl, refl), refl)
      at false = (record { seen = t; kept = d.kept; pending = d.pending ++ made }, (refl, refl), refl)

  module _ (apart : NamesAreApart cs) where
    pub can_all : (xs : List Step) → AllByRecursion (IsWithin (length cs)) xs → (d : Disk)
        → (e : Disk) × DidAllOn cs xs d e
    can_all [] h d = (d, refl)
    can_all (x ∷ xs) (here, h) d =
        let seen = can_make x here d.seen in
        let made = can_make x here (synced d) in
        let first = do_on x d (with_all seen.0 d.seen) made.0 made.1 (makes_is cs apart x d.seen seen.0 seen.1) in
        let rest = can_all xs h first.0 in
        (rest.0, (first.0, first.1, rest.1))

-- ---- the steps of a save and of finishing one are within

within_each : (n : ℕ) (step : ℕ → Step) (m : ℕ) → m ≤ n → ((k : ℕ) → k < n → IsWithin n (step k))
    → AllByRecursion (IsWithin n) (for_each step m)
within_each n step zero le h = tt
within_each n step (suc m) le h =
    all_and (IsWithin n) (for_each step m) (step m ∷ []) (within_each n step m (omega arith) h) (h m (omega arith), tt)

place_within : (n : ℕ) → AllByRecursion (IsWithin n) (place_steps n)
place_within n = all_and (IsWithin n) (places n) end_steps
    (within_each n Place n (omega arith) (λ k below. below)) (tt, (tt, (tt, tt)))

pub on_within : (n : ℕ) → AllByRecursion (IsWithin n) (on_steps n)
on_within n = (tt, (tt, place_within n))

pub back_within : (n : ℕ) → AllByRecursion (IsWithin n) (back_steps n)
back_within n = (
  tt,
  all_and (IsWithin n) (unmakes n) end_steps
      (within_each n Unmake n (omega arith) (λ k below. below)) (tt, (tt, (tt, tt))),
)

pub without_within : (n : ℕ) → AllByRecursion (IsWithin n) without_steps
without_within n = (tt, (tt, tt))

pub save_within : (n : ℕ) → AllByRecursion (IsWithin n) (save_steps n)
save_within n = (
  tt,
  all_and (IsWithin n) (make_steps n ++ Sync ∷ []) (WriteNote ∷ place_steps n)
      (all_and (IsWithin n) (make_steps n) (Sync ∷ []) (within_each n Make n (omega arith) (λ k below. below)) (tt, tt))
      (tt, place_within n),
)
