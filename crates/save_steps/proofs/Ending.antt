-- What commands make of a save that was stopped, or that met a power cut.
use Rattle.std.proofs.Common.{◌≡◌, ◌⊎◌, inl, inr, ℕ, zero, suc, false, List, [], ◌∷◌, ◌++◌, Some, length, map}
use Rattle.std.proofs.Common.{slice_get, refl, sym, ◌∙◌, ap, subst}
use Rattle.std.specs.List.{AllByRecursion, list_any}
use Rattle.std.specs.Option.{option_map}
use Rattle.std.proofs.lemmas.List.{length-map}
use Rattle.std.proofs.lemmas.Option.{same_Some}
use Rattle.save_steps.specs.declared.slots.Slot.TheVariants.{Waiting, Placed}
use Rattle.save_steps.specs.declared.steps.Paper.{Paper}
use Rattle.save_steps.specs.declared.steps.Paper.TheVariants.{Absent}
use Rattle.save_steps.specs.declared.steps.Step.{Step}
use Rattle.save_steps.specs.declared.steps.Step.TheVariants.{WritePlan, Make, Sync, WriteNote, Place, Unmake}
use Rattle.save_steps.specs.declared.steps.Step.TheVariants.{RemovePaper, RemoveDraft}
use Rattle.save_steps.specs.Devices.{NameChange, with_all, WithSome, Disk, synced, IsPowerCut, IsPending, MakesInPart, DidOn}
use Rattle.save_steps.specs.Devices.{MayLeaveOn, DidAllOn, BreaksOff}
use Rattle.save_steps.specs.Finishing.{finish_of, is_foreign}
use Rattle.save_steps.specs.Folders.{FolderStands, Renewal, NamesAreApart, Same, Did, DidInPart}
use Rattle.save_steps.specs.Points.{IsReady, IsPlaced, slot_now, next_steps}
use Rattle.save_steps.specs.PowerCuts.{IsAtRest, EndsWith, BreakOffAgain, NextCompletes, EndsForGood, SurvivesPowerCuts}
use Rattle.save_steps.specs.Steps.{places, unmakes, plan_steps, end_steps, place_steps, save_steps, back_steps}
use Rattle.save_steps.specs.Steps.{on_steps, make_steps, without_steps}
use Rattle.save_steps.proofs.Runs.{did_cut, leads_to, leads_within}
use Rattle.save_steps.proofs.Can.{IsWithin, can_all, on_within, back_within, without_within, save_within}
use Rattle.save_steps.proofs.Judged.{waits, is_placed, none_foreign}
use Rattle.save_steps.proofs.Kept.{IsWaiting, old_same, new_same, noted_with_same, done_new, old_fixed, new_fixed}
use Rattle.save_steps.proofs.Held.{IsHeld, held_weaker, all_some, part_held}
use Rattle.save_steps.proofs.Chains.{Implies, LeadsOn, Old, Planned, Noted, New, AllMade, Before, Behind, Unsure}
use Rattle.save_steps.proofs.Chains.{OnBefore, OnBehind, OnUnsure, before_same, behind_same, without_leads}
use Rattle.save_steps.proofs.Chains.{back_leads, on_leads, places_lead, place_leads, plan_leads, note_moves}
use Rattle.save_steps.proofs.Chains.{note_leads, save_leads, InPlace}

-- ---- no draft is left

module _ (cs : List Renewal) where
  draft_kept : (x : Step) (s t : FolderStands) → Did cs x s t → s.draft ≡ false → t.draft ≡ false
  draft_kept WritePlan s t did e = did.1
  draft_kept (Make k) s t did e = did.0.1 ∙ e
  draft_kept Sync s t did e = did.0.1 ∙ e
  draft_kept WriteNote s t did e = did.1
  draft_kept (Place k) s t did e = did.0.1 ∙ e
  draft_kept (Unmake k) s t did e = did.0.1 ∙ e
  draft_kept RemoveDraft s t did e = did.1
  draft_kept RemovePaper s t did e = did.1 ∙ e

  drafts_kept : (xs : List Step) (d e : Disk) → DidAllOn cs xs d e → d.seen.draft ≡ false → e.seen.draft ≡ false
  drafts_kept [] d e h q = subst (λ (x : Disk). x.seen.draft ≡ false) (sym h) q
  drafts_kept (x ∷ xs) d e (m, did, rest) q =
      drafts_kept xs m e rest (draft_kept x d.seen m.seen did.is.seen q)

  no_draft : (front rest : List Step) (d e : Disk) → DidAllOn cs (front ++ RemoveDraft ∷ rest) d e
      → e.seen.draft ≡ false
  no_draft front rest d e h = after (did_cut (DidOn cs) (MayLeaveOn cs) front (RemoveDraft ∷ rest) d e h)
    where
      after : (m : Disk) × DidAllOn cs front d m × DidAllOn cs (RemoveDraft ∷ rest) m e → e.seen.draft ≡ false
      after (m, all, (w, did, others)) = drafts_kept rest w e others did.is.seen.1

-- ---- a power cut

-- what the device has after a cut is seen
rests : {P L : FolderStands → Type 0} → Implies P L → (d e : Disk) → IsPowerCut d e → P e.kept → IsHeld P L e
rests {P} {L} wider d e cut p = record {
  seen = subst P (sym cut.seen) p;
  next = subst (λ (ms : List NameChange). P (with_all ms e.kept)) (sym cut.pending) p;
  left = λ t some. wider t (subst P (sym (subst (λ (ms : List NameChange). WithSome ms e.kept t) cut.pending some)) p);
}

module _ (sum : List ℕ → List ℕ) (cs : List Renewal) (apart : NamesAreApart cs) (start : FolderStands) where
  -- ---- which steps the next command takes

  known_absent : (s : FolderStands) → s.paper ≡ Absent → next_steps sum cs s ≡ Some without_steps
  known_absent s e = ap (λ (p : Paper). finish_of p (map (slot_now sum s) cs)) e

  known_planned : (s : FolderStands) → Planned cs apart start s → next_steps sum cs s ≡ Some (back_steps (length cs))
  known_planned s p = ap (λ (p : Paper). finish_of p (map (slot_now sum s) cs)) p.paper
      ∙ ap (λ (n : ℕ). Some (back_steps n)) (length-map cs (slot_now sum s))

  waiting_fits : (s : FolderStands) (c : Renewal) → IsWaiting s c → slot_now sum s c ≡ Waiting
  waiting_fits s c (name, beside) = rw (name, beside) (waits (option_map sum c.old) (sum c.new))

  placed_fits : (s : FolderStands) (c : Renewal) → IsPlaced s c → slot_now sum s c ≡ Placed
  placed_fits s c (name, beside) = rw (name, beside) (is_placed (option_map sum c.old) (sum c.new))

  fits : (s : FolderStands) → Noted cs apart start s → (k : ℕ) (c : Renewal) → slice_get cs k ≡ Some c
      → is_foreign (slot_now sum s c) ≡ false
  fits s p k c at = elim (p.each k c at) [
    | inl waiting ↦ ap is_foreign (waiting_fits s c waiting)
    | inr placed ↦ ap is_foreign (placed_fits s c placed)
  ]

  known_noted : (s : FolderStands) → Noted cs apart start s → next_steps sum cs s ≡ Some (on_steps (length cs))
  known_noted s p =
      let none : list_any is_foreign (map (slot_now sum s) cs) ≡ false = none_foreign (slot_now sum s) cs (fits s p) in
      ap (λ (p : Paper). finish_of p (map (slot_now sum s) cs)) p.paper
      ∙ rw none (ap (λ (n : ℕ). Some (on_steps n)) (length-map cs (slot_now sum s)))

  -- ---- commands in turn

  -- the next command knows its steps, which lead to Q, and all that breaks off leaves X
  abbrev Knows : (Disk → Type 0) → (Disk → Type 0) → Disk → Type 0
  Knows X Q e = (steps : List Step) × (next_steps sum cs e.seen ≡ Some steps) × LeadsOn cs X steps (λ d. d ≡ e) Q
      × AllByRecursion (IsWithin (length cs)) steps

  broke : {X P Q : Disk → Type 0} → ((d e : Disk) → X d → IsPowerCut d e → X e) → (steps : List Step)
      → LeadsOn cs X steps P Q → (d e : Disk) → P d → BreaksOff cs steps d e → X e
  broke cut steps leads d e p (inl stops) = leads.short d e p stops
  broke cut steps leads d e p (inr (m, stops, is)) = cut m e (leads.short d m p stops) is

  module _ {X Q : Disk → Type 0} (cut : (d e : Disk) → X d → IsPowerCut d e → X e) (knows : (e : Disk) → X e → Knows X Q e)
    where
      again : (n : ℕ) (d e : Disk) → X d → BreakOffAgain sum cs n d e → X e
      again zero d e x h = subst X (sym h) x
      again (suc n) d e x (m, steps, is, off, rest) =
          let k = knows d x in
          let same : steps ≡ k.0 = same_Some steps k.0 (sym is ∙ k.1) in
          again n m e (broke cut k.0 k.2 d m refl (subst (λ (xs : List Step). BreaksOff cs xs d m) same off)) rest

      completes : (d : Disk) → X d → NextCompletes sum cs d Q
      completes d x n e h =
          let k = knows e (again n d e x h) in
          (k.0, k.1, can_all cs apart k.0 k.3 e, λ u all. k.2.whole e u refl all)

  -- steps that lead to T, and remove a draft on the way, end with it
  ending : {T : FolderStands → Type 0} {X P Y : Disk → Type 0}
      → ((s t : FolderStands) → T s → T t → (t.paper ≡ s.paper) × Same s.file t.file)
      → ((u : Disk) → IsHeld T T u → Y u) → (front rest : List Step)
      → LeadsOn cs X (front ++ RemoveDraft ∷ rest) P (IsHeld T T) → (e : Disk) → P e
      → LeadsOn cs X (front ++ RemoveDraft ∷ rest) (λ d. d ≡ e) (λ u. EndsWith T u × Y u)
  ending {P = P} fixed stays front rest leads e p = record {
    whole = λ d u is all.
        let held = leads.whole d u (subst P (sym is) p) all in (
          record {
            now = held.seen;
            draft = no_draft cs front rest d u all;
            rest = λ t some. fixed u.seen t held.seen (held.left t some);
          },
          stays u held,
        );
    short = λ d u is stops. leads.short d u (subst P (sym is) p) stops;
  }

  abbrev EndOld : Disk → Type 0
  EndOld u = EndsWith (Old cs apart start) u × OnBefore cs apart start u

  abbrev EndNew : Disk → Type 0
  EndNew u = EndsWith (New cs apart start) u × OnBehind cs apart start u

  old_stays : (u : Disk) → IsHeld (Old cs apart start) (Old cs apart start) u → OnBefore cs apart start u
  old_stays u h = inl (held_weaker (λ s p. p) (λ s p. inl p) u h)

  knows_before : (e : Disk) → OnBefore cs apart start e → Knows (OnBefore cs apart start) EndOld e
  knows_before e (inl old) = (
    without_steps,
    known_absent e.seen old.seen.paper,
    ending (old_fixed cs start apart) old_stays [] (Sync ∷ [])
        (without_leads cs apart (old_same cs start) (before_same cs apart start) (λ s p. inl p) (λ d h. inl h)) e old,
    without_within (length cs),
  )
  knows_before e (inr planned) = (
    back_steps (length cs),
    known_planned e.seen planned.seen,
    ending (old_fixed cs start apart) old_stays [] (unmakes (length cs) ++ end_steps) (back_leads cs apart start) e
        planned,
    back_within (length cs),
  )

  new_stays : (u : Disk) → IsHeld (New cs apart start) (New cs apart start) u → OnBehind cs apart start u
  new_stays u h = inr (held_weaker (λ s p. p) (λ s p. inr p) u h)

  knows_behind : (e : Disk) → OnBehind cs apart start e → Knows (OnBehind cs apart start) EndNew e
  knows_behind e (inr new) = (
    without_steps,
    known_absent e.seen new.seen.paper,
    ending (new_fixed cs start apart) new_stays [] (Sync ∷ [])
        (without_leads cs apart (new_same cs start) (behind_same cs apart start) (λ s p. inr p) (λ d h. inr h)) e new,
    without_within (length cs),
  )
  knows_behind e (inl noted) = (
    on_steps (length cs),
    known_noted e.seen noted.seen,
    ending (new_fixed cs start apart) new_stays (Sync ∷ []) (place_steps (length cs))
        (on_leads cs apart start (Noted cs apart start) (λ s p. p) (OnBehind cs apart start) (λ d h. inl h) (λ d h. h))
        e noted,
    on_within (length cs),
  )

  cut_before : (d e : Disk) → OnBefore cs apart start d → IsPowerCut d e → OnBefore cs apart start e
  cut_before d e h cut = at (left h)
    where
      left : OnBefore cs apart start d → Before cs apart start e.kept
      left (inl h) = h.left e.kept cut.kept
      left (inr h) = h.left e.kept cut.kept

      at : Before cs apart start e.kept → OnBefore cs apart start e
      at (inl old) = inl (rests (λ s p. inl p) d e cut old)
      at (inr planned) = inr (rests (λ s p. inr p) d e cut planned)

  cut_behind : (d e : Disk) → OnBehind cs apart start d → IsPowerCut d e → OnBehind cs apart start e
  cut_behind d e (inl h) cut = inl (rests (λ s p. p) d e cut (h.left e.kept cut.kept))
  cut_behind d e (inr h) cut = at (h.left e.kept cut.kept)
    where
      at : Behind cs apart start e.kept → OnBehind cs apart start e
      at (inl noted) = inl (rests (λ s p. p) d e cut noted)
      at (inr new) = inr (rests (λ s p. inr p) d e cut new)

  pub ends_old : (d : Disk) → OnBefore cs apart start d → NextCompletes sum cs d (EndsWith (Old cs apart start))
  ends_old d h n e again =
      let c = completes cut_before knows_before d h n e again in
      (c.0, c.1, c.2, λ u all. (c.3 u all).0)

  pub ends_new : (d : Disk) → OnBehind cs apart start d → NextCompletes sum cs d (EndsWith (New cs apart start))
  ends_new d h n e again =
      let c = completes cut_behind knows_behind d h n e again in
      (c.0, c.1, c.2, λ u all. (c.3 u all).0)

  -- ---- where the note may be on the device or not

  abbrev ForGood : Disk → Type 0
  ForGood u = EndsForGood sum cs (Old cs apart start) u ⊎ EndsForGood sum cs (New cs apart start) u

  knows_unsure : (e : Disk) → OnUnsure cs apart start e → Knows (OnUnsure cs apart start) ForGood e
  knows_unsure e (inl (inl before)) =
      let k = knows_before e before in (
        k.0,
        k.1,
        leads_within (λ d h. inl (inl h)) (leads_to (λ u h. inl (h.0, ends_old u h.1)) k.2),
        k.3,
      )
  knows_unsure e (inl (inr behind)) =
      let k = knows_behind e behind in (
        k.0,
        k.1,
        leads_within (λ d h. inl (inr h)) (leads_to (λ u h. inr (h.0, ends_new u h.1)) k.2),
        k.3,
      )
  knows_unsure e (inr unsure) = (
    on_steps (length cs),
    known_noted e.seen unsure.seen,
    leads_to (λ u h. inr (h.0, ends_new u h.1)) (ending (new_fixed cs start apart) new_stays (Sync ∷ [])
        (place_steps (length cs)) (on_leads cs apart start (Unsure cs apart start) (λ s p. inr p)
        (OnUnsure cs apart start) (λ d h. inr h) (λ d h. inl (inr h))) e unsure),
    on_within (length cs),
  )

  cut_unsure : (d e : Disk) → OnUnsure cs apart start d → IsPowerCut d e → OnUnsure cs apart start e
  cut_unsure d e (inl (inl before)) cut = inl (inl (cut_before d e before cut))
  cut_unsure d e (inl (inr behind)) cut = inl (inr (cut_behind d e behind cut))
  cut_unsure d e (inr h) cut = at (h.left e.kept cut.kept)
    where
      at : Unsure cs apart start e.kept → OnUnsure cs apart start e
      at (inl planned) = inl (inl (inr (rests (λ s p. inr p) d e cut planned)))
      at (inr noted) = inl (inr (inl (rests (λ s p. p) d e cut noted)))

module _ (sum : List ℕ → List ℕ) (cs : List Renewal) (apart : NamesAreApart cs) (d : Disk) (ready : IsReady cs d.seen)
    (rest : IsAtRest d) where
  all_old : IsHeld (Old cs apart d.seen) (Old cs apart d.seen) d
  all_old = record {
    seen = begins;
    next = left (synced d) (all_some d.pending d.kept);
    left = left;
  }
    where
      begins : Old cs apart d.seen d.seen
      begins = record { paper = ready.paper; free = ready.free; others = λ n free. refl }

      left : (t : FolderStands) → WithSome d.pending d.kept t → Old cs apart d.seen t
      left t some = let r = rest t some in old_same cs d.seen d.seen t begins r.0 r.1

  planned : (m : Disk) → DidAllOn cs (plan_steps (length cs)) d m
      → IsHeld (AllMade cs apart d.seen) (AllMade cs apart d.seen) m
  planned m all = (plan_leads cs apart d.seen).whole d m all_old all

  noted : (m : Disk) → DidAllOn cs (plan_steps (length cs) ++ WriteNote ∷ []) d m
      → IsHeld (Noted cs apart d.seen) (Noted cs apart d.seen) m
  noted m all =
      let cut = did_cut (DidOn cs) (MayLeaveOn cs) (plan_steps (length cs)) (WriteNote ∷ []) d m all in
      (note_leads cs apart d.seen ready).whole cut.0 m (planned cut.0 cut.1) cut.2

  all_new : (m e : Disk) → InPlace cs apart d.seen (length cs) m → DidAllOn cs (Sync ∷ RemovePaper ∷ []) m e
      → New cs apart d.seen e.seen
  all_new m e h (w, sync, (v, removed, is)) =
      let placed = noted_with_same cs d.seen (length cs) m.seen w.seen h.seen sync.is.seen.0.0 sync.is.seen.1 in
      subst (λ (x : Disk). New cs apart d.seen x.seen) (sym is)
      (done_new cs d.seen w.seen v.seen placed removed.is.seen.0 removed.is.seen.2)

  -- the note is being written: its draft isn't renamed, or all is done
  pub stopped_before : (m e : Disk) → DidAllOn cs (plan_steps (length cs)) d m → (made : List NameChange)
      → MakesInPart cs WriteNote made → DidInPart cs WriteNote m.seen e.seen → IsPending m made e
      → NextCompletes sum cs e (EndsWith (Old cs apart d.seen))
  stopped_before m e all made part seen pending = ends_old sum cs apart d.seen e (inr (held_weaker (λ s p. p.0)
      (λ s p. inr p.0) e
      (part_held apart (note_moves cs apart d.seen ready) m made e (planned m all) part seen pending)))

  pub stopped_after : (m e : Disk) → DidAllOn cs (plan_steps (length cs)) d m → DidOn cs WriteNote m e
      → NextCompletes sum cs e (EndsWith (New cs apart d.seen))
  stopped_after m e all did = ends_new sum cs apart d.seen e
      (inl ((note_leads cs apart d.seen ready).whole m e (planned m all) (e, did, refl)))

  pub survives : SurvivesPowerCuts sum cs d
  survives = record {
    ever = λ e off.
        completes sum cs apart d.seen (cut_unsure sum cs apart d.seen) (knows_unsure sum cs apart d.seen) e
        (broke sum cs apart d.seen (cut_unsure sum cs apart d.seen) (save_steps (length cs))
        (save_leads cs apart d.seen ready) d e all_old off);
    before = λ e off. ends_old sum cs apart d.seen e
        (broke sum cs apart d.seen (cut_before sum cs apart d.seen) (plan_steps (length cs))
        (plan_leads cs apart d.seen) d e all_old off);
    after = λ m e all off. ends_new sum cs apart d.seen e
        (broke sum cs apart d.seen (cut_behind sum cs apart d.seen) (place_steps (length cs))
        (place_leads cs apart d.seen) m e (noted m all) off);
    can = can_all cs apart (save_steps (length cs)) (save_within (length cs)) d;
    whole = λ e all.
        let held = (save_leads cs apart d.seen ready).whole d e all_old all in
        record {
          now = held.seen;
          draft = drafts_kept cs (make_steps (length cs) ++ Sync ∷ [] ++ WriteNote ∷ place_steps (length cs))
              all.0 e all.2 all.1.is.seen.1;
          rest = λ t some. new_fixed cs d.seen apart e.seen t held.seen (held.left t some);
        };
    counts = λ m e all last.
        let cut = did_cut (DidOn cs) (MayLeaveOn cs) (places (length cs)) (Sync ∷ RemovePaper ∷ []) m e last in
        all_new cut.0 e ((places_lead cs apart d.seen).whole m cut.0 (noted m all) cut.1) cut.2;
  }
