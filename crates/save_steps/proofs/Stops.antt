-- A save that is only stopped: no power cut is met, and what is seen alone counts.
use Rattle.std.proofs.Common.{◌≡◌, ◌⊎◌, inl, inr, ℕ, zero, suc, false, List, [], ◌∷◌, ◌++◌, Some, length}
use Rattle.std.proofs.Common.{refl, sym, ap, subst}
use Rattle.save_steps.specs.declared.steps.Step.{Step}
use Rattle.save_steps.specs.declared.steps.Step.TheVariants.{WritePlan, Make, Sync, WriteNote, Place, Unmake}
use Rattle.save_steps.specs.declared.steps.Step.TheVariants.{RemovePaper, RemoveDraft}
use Rattle.save_steps.specs.Devices.{NameChange}
use Rattle.save_steps.specs.Devices.{Disk, synced, MakesChanges, MakesInPart, DidOn, MayLeaveOn, InPart, InWhole}
use Rattle.save_steps.specs.Devices.{DidAllOn, StopsOn}
use Rattle.save_steps.specs.Folders.{FolderStands, Renewal, NamesAreApart, Did, DidInPart, MayLeave, DidAll, StopsAt}
use Rattle.save_steps.specs.Points.{IsReady, IsAllOld, IsAllNew, next_steps, StopsAgain, NextEnds, IsAllOrNothing}
use Rattle.save_steps.specs.PowerCuts.{EndsWith, BreakOffAgain, NextCompletes, IsAtRest, SurvivesPowerCuts}
use Rattle.save_steps.specs.Steps.{plan_steps, place_steps, save_steps}
use Rattle.save_steps.proofs.Can.{placed, do_on}
use Rattle.save_steps.proofs.Ending.{survives, stopped_before, stopped_after}

module _ (sum : List ℕ → List ℕ) (cs : List Renewal) where
  -- ---- what is seen to be done can be done on a device

  made_for : (x : Step) (s t u : FolderStands) → Did cs x s t → (made : List NameChange) × MakesChanges cs x u made
  made_for WritePlan s t u did = (_, refl)
  made_for WriteNote s t u did = (_, refl)
  made_for Sync s t u did = (_, refl)
  made_for RemoveDraft s t u did = (_, refl)
  made_for RemovePaper s t u did = (_, refl)
  made_for (Make k) s t u (papers, (c, at, put_under)) = (_, (c, at, refl))
  made_for (Unmake k) s t u (papers, (c, at, put_under)) = (_, (c, at, refl))
  made_for (Place k) s t u (papers, (c, at, placing)) =
      let made = placed c (u.file c.beside) in (made.0, (c, at, made.1))

  none_made : (x : Step) → MakesInPart cs x []
  none_made WritePlan = inl refl
  none_made (Make k) = inl refl
  none_made Sync = refl
  none_made WriteNote = inl refl
  none_made (Place k) = refl
  none_made (Unmake k) = refl
  none_made RemoveDraft = refl
  none_made RemovePaper = refl

  -- a device on which these do so, with this seen then
  abbrev Shown : (Disk → Type 0) → FolderStands → Type 0
  Shown P t = (e : Disk) × P e × (e.seen ≡ t)

  did : (x : Step) (d : Disk) (t : FolderStands) → Did cs x d.seen t → Shown (DidOn cs x d) t
  did x d t h = let made = made_for x d.seen t (synced d) h in do_on cs x d t made.0 made.1 h

  in_part : (x : Step) (d : Disk) (t : FolderStands) → DidInPart cs x d.seen t → Shown (MayLeaveOn cs x d) t
  in_part x d t h = (
    record { seen = t; kept = d.kept; pending = d.pending ++ [] },
    InPart [] (none_made x) h (refl, refl),
    refl,
  )

  did_all : (xs : List Step) (d : Disk) (t : FolderStands) → DidAll cs xs d.seen t → Shown (DidAllOn cs xs d) t
  did_all [] d t h = (d, refl, sym h)
  did_all (x ∷ xs) d t (m, first, rest) =
      let here = did x d m first in
      let others = did_all xs here.0 t (subst (λ (s : FolderStands). DidAll cs xs s t) (sym here.2) rest) in
      (others.0, (here.0, here.1, others.1), others.2)

  stops : (xs : List Step) (d : Disk) (t : FolderStands) → StopsAt cs xs d.seen t → Shown (StopsOn cs xs d) t
  stops [] d t h = (d, refl, sym h)
  stops (x ∷ xs) d t (inl (inl part)) = let here = in_part x d t part in (here.0, inl here.1, here.2)
  stops (x ∷ xs) d t (inl (inr whole)) = let here = did x d t whole in (here.0, inl (InWhole here.1), here.2)
  stops (x ∷ xs) d t (inr (m, first, rest)) =
      let here = did x d m first in
      let others = stops xs here.0 t (subst (λ (s : FolderStands). StopsAt cs xs s t) (sym here.2) rest) in
      (others.0, inr (here.0, here.1, others.1), others.2)

  again : (n : ℕ) (d : Disk) (t : FolderStands) → StopsAgain sum cs n d.seen t
      → Shown (BreakOffAgain sum cs n d) t
  again zero d t h = (d, refl, sym h)
  again (suc n) d t (m, steps, is, stop, rest) =
      let here = stops steps d m stop in
      let others = again n here.0 t (subst (λ (s : FolderStands). StopsAgain sum cs n s t) (sym here.2) rest) in
      (others.0, (here.0, steps, is, inl here.1, others.1), others.2)

  -- ---- and what is done on a device is seen

  seen_all : (xs : List Step) (d e : Disk) → DidAllOn cs xs d e → DidAll cs xs d.seen e.seen
  seen_all [] d e h = ap (λ (x : Disk). x.seen) h
  seen_all (x ∷ xs) d e (m, first, rest) = (m.seen, first.is.seen, seen_all xs m e rest)

  next_ends : (P : FolderStands → Type 0) (s : FolderStands) → Shown (λ d. NextCompletes sum cs d (EndsWith P)) s
      → NextEnds sum cs s P
  next_ends P s (d, completes, is) = subst (λ (x : FolderStands). NextEnds sum cs x P) is ends
    where
      ends : NextEnds sum cs d.seen P
      ends n t stop =
          let e = again n d t stop in
          let c = completes n e.0 e.1 in
          subst (λ (x : FolderStands). (steps : List Step) × (next_steps sum cs x ≡ Some steps)
          × ((u : FolderStands) × DidAll cs steps x u)
          × ((u : FolderStands) → DidAll cs steps x u → P u × (u.draft ≡ false)))
          e.2 (
            c.0,
            c.1,
            (c.2.0.seen, seen_all c.0 e.0 c.2.0 c.2.1),
            λ u all.
                let v = did_all c.0 e.0 u all in
                let end = c.3 v.0 v.1 in
                subst (λ (x : FolderStands). P x × (x.draft ≡ false)) v.2 (end.now, end.draft),
          )

  module _ (start : FolderStands) (apart : NamesAreApart cs) (ready : IsReady cs start) where
    -- nothing is pending
    abbrev disk : Disk
    disk = record { seen = start; kept = start; pending = [] }

    at_rest : IsAtRest disk
    at_rest t is = (ap (λ (x : FolderStands). x.paper) is, λ n. ap (λ (x : FolderStands). x.file n) is)

    law : SurvivesPowerCuts sum cs disk
    law = survives sum cs apart disk ready at_rest

    within : (s : FolderStands) (w : Disk) → DidAllOn cs (plan_steps (length cs)) disk w
        → MayLeave cs WriteNote w.seen s
        → NextEnds sum cs s (IsAllOld cs start) ⊎ NextEnds sum cs s (IsAllNew cs start)
    unfolding in_part
    within s w all (inl part) =
        let e = in_part WriteNote w s part in
        inl (next_ends (IsAllOld cs start) s (
          e.0,
          stopped_before sum cs apart disk ready at_rest w e.0 all []
              (none_made WriteNote) (subst (DidInPart cs WriteNote w.seen) (sym e.2) part) (refl, refl),
          e.2,
        ))
    within s w all (inr whole) =
        let e = did WriteNote w s whole in
        inr (next_ends (IsAllNew cs start) s (e.0, stopped_after sum cs apart disk ready at_rest w e.0 all e.1, e.2))

    pub all_or_nothing : IsAllOrNothing sum cs start
    all_or_nothing = record {
      before = λ s stop.
          let e = stops (plan_steps (length cs)) disk s stop in
          next_ends (IsAllOld cs start) s (e.0, law.before e.0 (inl e.1), e.2);
      between = λ m s all left.
          let w = did_all (plan_steps (length cs)) disk m all in
          within s w.0 w.1 (subst (λ (x : FolderStands). MayLeave cs WriteNote x s) (sym w.2) left);
      behind = λ m s all stop.
          let w = did_all (plan_steps (length cs) ++ WriteNote ∷ []) disk m all in
          let e = stops (place_steps (length cs)) w.0 s
          (subst (λ (x : FolderStands). StopsAt cs (place_steps (length cs)) x s) (sym w.2) stop) in
          next_ends (IsAllNew cs start) s (e.0, law.after w.0 e.0 w.1 (inl e.1), e.2);
      can = (law.can.0.seen, seen_all (save_steps (length cs)) disk law.can.0 law.can.1);
      whole = λ s all.
          let e = did_all (save_steps (length cs)) disk s all in
          subst (IsAllNew cs start) e.2 (law.whole e.0 e.1).now;
    }
