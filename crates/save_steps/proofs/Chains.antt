-- Where the steps of a save lead on a device, and those that finish one.
use Rattle.std.proofs.Common.{◌≡◌, ◌⊎◌, inl, inr, ℕ, zero, suc, List, [], ◌∷◌, ◌++◌, Some, None, length}
use Rattle.std.proofs.Common.{slice_get, refl, sym, subst, arith}
use Rattle.std.specs.List.{AllByRecursion}
use Rattle.std.proofs.lemmas.Option.{MatchOption-at_some, MatchOption-at_none}
use Rattle.std.specs.Prelude.{MatchOption}
use Rattle.save_steps.specs.declared.steps.Paper.TheVariants.{Absent, Plan, Note}
use Rattle.save_steps.specs.declared.steps.Step.{Step}
use Rattle.save_steps.specs.declared.steps.Step.TheVariants.{WritePlan, Make, Sync, WriteNote, Place, Unmake}
use Rattle.save_steps.specs.declared.steps.Step.TheVariants.{RemovePaper, RemoveDraft}
use Rattle.save_steps.specs.Devices.{NameChange, DraftMade, DraftPlaced, DraftGone, PaperGone, FileMade, FileMoved}
use Rattle.save_steps.specs.Devices.{FileGone, with_change, Disk, DidOn, MayLeaveOn}
use Rattle.save_steps.specs.Folders.{FolderStands, Renewal, NamesAreApart, Same}
use Rattle.save_steps.specs.Points.{IsReady, IsAllOld, IsPlaced, IsAllNew}
use Rattle.save_steps.specs.Steps.{make_steps, places, unmakes, plan_steps, end_steps, place_steps, save_steps}
use Rattle.save_steps.specs.Steps.{back_steps, on_steps, without_steps}
use Rattle.save_steps.proofs.Runs.{Leads, leads_then, leads_each, leads_from, leads_within}
use Rattle.save_steps.proofs.Kept.{Blind, blind_or, IsPlanned, IsNoted, IsWaiting, IsBefore, IsBehind}
use Rattle.save_steps.proofs.Kept.{PlannedWith, NotedWith, old_same, planned_same, noted_same, new_same}
use Rattle.save_steps.proofs.Kept.{planned_with_same, noted_with_same, planned_now, gone_old, done_new, planned_put}
use Rattle.save_steps.proofs.Kept.{make_part, noted_now, old_put, make_whole, unmake_whole, place_noted, place_whole}
use Rattle.save_steps.proofs.Held.{IsHeld, held_weaker, KeptBy, Moves, put_is, moved_puts, lead, lead_synced}

-- P says no less than Q
abbrev pub Implies : (FolderStands → Type 0) → (FolderStands → Type 0) → Type 0
Implies P Q = (s : FolderStands) → P s → Q s

module _ (cs : List Renewal) where
  -- the steps lead so on a device
  abbrev pub LeadsOn : (Disk → Type 0) → List Step → (Disk → Type 0) → (Disk → Type 0) → Type 0
  LeadsOn = Leads (DidOn cs) (MayLeaveOn cs)

  -- ---- steps that change nothing but a draft

  sync_moves : (S L : FolderStands → Type 0) → Blind S → Implies S L → Moves cs Sync S S S L L
  sync_moves S L blind wider = record {
    part = λ s t p h. blind s t p h.0 h.1;
    whole = λ s t p h. blind s t p h.0.0 h.1;
    in_part = λ made e. subst (AllByRecursion (KeptBy L)) (sym e) tt;
    makes = λ s made p e. subst (AllByRecursion (KeptBy L)) (sym e) tt;
    wider = λ s p. p;
    ended = wider;
  }

  draft_moves : (S L : FolderStands → Type 0) → Blind S → Blind L → Implies S L → Moves cs RemoveDraft S S S L L
  draft_moves S L blind others wider = record {
    part = λ s t p h. blind s t p h.0 h.1;
    whole = λ s t p h. blind s t p h.0 h.2;
    in_part = λ made e. subst (AllByRecursion (KeptBy L)) (sym e) tt;
    makes = λ s made p e. subst (AllByRecursion (KeptBy L)) (sym e)
        ((λ a q. others a (with_change DraftGone a) q refl (λ n. refl)), tt);
    wider = λ s p. p;
    ended = wider;
  }

  module _ (apart : NamesAreApart cs) where
    pub without_leads : {S L : FolderStands → Type 0} → Blind S → Blind L → Implies S L → {X : Disk → Type 0}
        → ((d : Disk) → IsHeld S L d → X d) → LeadsOn X without_steps (IsHeld S L) (IsHeld S S)
    without_leads {S} {L} blind others wider {X} stays = leads_then (RemoveDraft ∷ []) (Sync ∷ [])
        (lead apart (draft_moves S L blind others wider) X stays stays)
        (lead_synced apart (sync_moves S L blind wider) X stays stays refl)

    -- ---- the plan or the note removed

    module _ (S T : FolderStands → Type 0) (blind_s : Blind S) (blind_t : Blind T)
        (gone : (s : FolderStands) → T s → s.paper ≡ Absent)
        (goes : (s t : FolderStands) → S s → t.paper ≡ Absent → Same s.file t.file → T t) where
      -- it is removed or not
      abbrev Either : FolderStands → Type 0
      Either s = S s ⊎ T s

      either_gone : KeptBy Either PaperGone
      either_gone s (inl p) = inr (goes s (with_change PaperGone s) p refl (λ n. refl))
      either_gone s (inr p) = inr (blind_t s (with_change PaperGone s) p (sym (gone s p)) (λ n. refl))

      remove_moves : Moves cs RemovePaper S S T S Either
      remove_moves = record {
        part = λ s t p h. blind_s s t p h.0 h.1;
        whole = λ s t p h. goes s t p h.0 h.2;
        in_part = λ made e. subst (AllByRecursion (KeptBy S)) (sym e) tt;
        makes = λ s made p e. subst (AllByRecursion (KeptBy Either)) (sym e) (either_gone, tt);
        wider = λ s p. inl p;
        ended = λ s p. inr p;
      }

      pub end_leads : (L : FolderStands → Type 0) → Implies S L → (X : Disk → Type 0)
          → ((d : Disk) → IsHeld S L d → X d) → ((d : Disk) → IsHeld T Either d → X d)
          → LeadsOn X end_steps (IsHeld S L) (IsHeld T T)
      end_leads L wider X stays ends = leads_then (Sync ∷ []) (RemovePaper ∷ Sync ∷ [])
          (lead_synced apart (sync_moves S L blind_s wider) X stays stays refl)
          (leads_then (RemovePaper ∷ []) (Sync ∷ [])
          (lead apart remove_moves X (λ d h. stays d (held_weaker (λ s p. p) wider d h)) ends)
          (lead_synced apart (sync_moves T Either blind_t (λ s p. inr p)) X ends ends refl))

    module _ (start : FolderStands) where
      abbrev pub Old : FolderStands → Type 0
      Old = IsAllOld cs start

      abbrev pub Planned : FolderStands → Type 0
      Planned = IsPlanned cs start

      abbrev pub Noted : FolderStands → Type 0
      Noted = IsNoted cs start

      abbrev pub New : FolderStands → Type 0
      New = IsAllNew cs start

      -- all new files are made, all are gone, or all are in place
      abbrev pub AllMade : FolderStands → Type 0
      AllMade = PlannedWith cs start (λ c. Some c.new) (length cs)

      abbrev AllGone : FolderStands → Type 0
      AllGone = PlannedWith cs start (λ _. None) (length cs)

      abbrev AllPlaced : FolderStands → Type 0
      AllPlaced = NotedWith cs start (length cs)

      -- before the note, after it, and where a cut may leave either
      abbrev pub Before : FolderStands → Type 0
      Before = IsBefore cs start

      abbrev pub Behind : FolderStands → Type 0
      Behind = IsBehind cs start

      abbrev pub Unsure : FolderStands → Type 0
      Unsure s = Planned s ⊎ Noted s

      abbrev pub OnBefore : Disk → Type 0
      OnBefore d = IsHeld Old Before d ⊎ IsHeld Planned Before d

      abbrev pub OnBehind : Disk → Type 0
      OnBehind d = IsHeld Noted Noted d ⊎ IsHeld New Behind d

      pub before_same : Blind Before
      before_same = blind_or Old Planned (old_same cs start) (planned_same cs start)

      pub behind_same : Blind Behind
      behind_same = blind_or Noted New (noted_same cs start) (new_same cs start)

      -- ---- a planned save taken away

      -- the first k new files are gone, or made, while a plan is seen
      abbrev Gone : ℕ → Disk → Type 0
      Gone k = IsHeld (PlannedWith cs start (λ _. None) k) Before

      unmake_moves : (k : ℕ) → Moves cs (Unmake k) (PlannedWith cs start (λ _. None) k) Planned
          (PlannedWith cs start (λ _. None) (suc k)) Before Before
      unmake_moves k = record {
        part = λ s t p h. planned_same cs start s t p.0 h.0 h.1;
        whole = unmake_whole cs start apart k;
        in_part = λ made e. subst (AllByRecursion (KeptBy Before)) (sym e) tt;
        makes = λ s made p (c, at, e). subst (AllByRecursion (KeptBy Before)) (sym e) (gone c at, tt);
        wider = λ s p. p;
        ended = λ s p. inr p.0;
      }
        where
          gone : (c : Renewal) → slice_get cs k ≡ Some c → KeptBy Before (FileGone c.beside)
          gone c at s (inl p) = inl (old_put cs start apart s (with_change (FileGone c.beside) s) k c p refl at
              (put_is s.file c.beside None))
          gone c at s (inr p) = inr (planned_put cs start s (with_change (FileGone c.beside) s) None k c p refl at
              (put_is s.file c.beside None))

      at_gone : (k : ℕ) (d : Disk) → Gone k d → OnBefore d
      at_gone k d h = inr (held_weaker (λ s p. p.0) (λ s p. p) d h)

      pub back_leads : LeadsOn OnBefore (back_steps (length cs)) (IsHeld Planned Before) (IsHeld Old Old)
      back_leads = leads_then (RemoveDraft ∷ []) (unmakes (length cs) ++ end_steps)
          (lead apart (draft_moves Planned Before (planned_same cs start) before_same (λ s p. inr p)) OnBefore
          (λ d h. inr h) (λ d h. inr h))
          (leads_then (unmakes (length cs)) end_steps
          (leads_from (held_weaker (λ s p. (p, λ k c below at. absurd (omega arith))) (λ s p. p))
          (leads_each Unmake Gone
          (λ k. lead apart (unmake_moves k) OnBefore (λ d h. inr h) (at_gone (suc k))) (at_gone zero) (length cs)))
          (end_leads AllGone Old (planned_with_same cs start (λ _. None) (length cs)) (old_same cs start)
          (λ s p. p.paper) (gone_old cs start) Before (λ s p. inr p.0) OnBefore (at_gone (length cs))
          (λ d h. inl (held_weaker (λ s p. p) (λ s q. elim q [ inl p ↦ inr p.0 | inr p ↦ inl p ]) d h))))

      -- ---- a noted save carried to its end

      abbrev pub InPlace : ℕ → Disk → Type 0
      InPlace k = IsHeld (NotedWith cs start k) Noted

      place_moves : (k : ℕ) → Moves cs (Place k) (NotedWith cs start k) Noted (NotedWith cs start (suc k)) Noted Noted
      place_moves k = record {
        part = λ s t p h. noted_same cs start s t p.0 h.0 h.1;
        whole = place_whole cs start apart k;
        in_part = λ made e. subst (AllByRecursion (KeptBy Noted)) (sym e) tt;
        makes = λ s made p (c, at, h). placed s made p.0 c at (p.0.each k c at) h;
        wider = λ s p. p;
        ended = λ s p. p.0;
      }
        where
          moved : (c : Renewal) → slice_get cs k ≡ Some c → KeptBy Noted (FileMoved c.beside c.name c.new)
          moved c at s p =
              let puts = moved_puts s.file c.beside c.name c.new (λ e. apart.crossed k k c c at at (sym e)) in
              place_noted cs start apart s (with_change (FileMoved c.beside c.name c.new) s) k c p at
              ((puts.0, puts.1), puts.2) refl

          placed : (s : FolderStands) (made : List NameChange) → Noted s → (c : Renewal) → slice_get cs k ≡ Some c
              → IsWaiting s c ⊎ IsPlaced s c
              → MatchOption (s.file c.beside) (made ≡ []) (λ bytes. made ≡ FileMoved c.beside c.name bytes ∷ [])
              → AllByRecursion (KeptBy Noted) made
          placed s made p c at (inl waits) h =
              let is : made ≡ FileMoved c.beside c.name c.new ∷ [] =
              MatchOption-at_some (made ≡ []) (λ bytes. made ≡ FileMoved c.beside c.name bytes ∷ []) c.new waits.1 h in
              subst (AllByRecursion (KeptBy Noted)) (sym is) (moved c at, tt)
          placed s made p c at (inr sits) h =
              let is : made ≡ [] =
              MatchOption-at_none (made ≡ []) (λ bytes. made ≡ FileMoved c.beside c.name bytes ∷ []) sits.1 h in
              subst (AllByRecursion (KeptBy Noted)) (sym is) tt

      at_place : (k : ℕ) (d : Disk) → InPlace k d → OnBehind d
      at_place k d h = inl (held_weaker (λ s p. p.0) (λ s p. p) d h)

      pub places_lead : LeadsOn OnBehind (places (length cs)) (IsHeld Noted Noted) (InPlace (length cs))
      places_lead = leads_from (held_weaker (λ s p. (p, λ k c below at. absurd (omega arith))) (λ s p. p))
          (leads_each Place InPlace (λ k. lead apart (place_moves k) OnBehind (λ d h. inl h) (at_place (suc k)))
          (at_place zero) (length cs))

      pub place_leads : LeadsOn OnBehind (place_steps (length cs)) (IsHeld Noted Noted) (IsHeld New New)
      place_leads = leads_then (places (length cs)) end_steps places_lead
          (end_leads AllPlaced New (noted_with_same cs start (length cs)) (new_same cs start)
          (λ s p. p.paper) (done_new cs start) Noted (λ s p. p.0) OnBehind (at_place (length cs))
          (λ d h. inr (held_weaker (λ s p. p) (λ s q. elim q [ inl p ↦ inl p.0 | inr p ↦ inr p ]) d h)))

      -- the device may have a plan yet
      pub on_leads : (L : FolderStands → Type 0) → Implies Noted L → (X : Disk → Type 0)
          → ((d : Disk) → IsHeld Noted L d → X d) → ((d : Disk) → OnBehind d → X d)
          → LeadsOn X (on_steps (length cs)) (IsHeld Noted L) (IsHeld New New)
      on_leads L wider X stays ends = leads_then (Sync ∷ []) (RemoveDraft ∷ place_steps (length cs))
          (lead_synced apart (sync_moves Noted L (noted_same cs start) wider) X stays stays refl)
          (leads_within ends (leads_then (RemoveDraft ∷ []) (place_steps (length cs))
          (lead apart (draft_moves Noted Noted (noted_same cs start) (noted_same cs start) (λ s p. p)) OnBehind
          (λ d h. inl h) (λ d h. inl h)) place_leads))

      -- ---- the save itself

      plan_moves : Moves cs WritePlan Old Old Planned Old Before
      plan_moves = record {
        part = λ s t p h. old_same cs start s t p h.0 h.1;
        whole = λ s t p h. planned_now cs start s t p h.0 h.2;
        in_part = λ made h. elim h [
          | inl e ↦ subst (AllByRecursion (KeptBy Old)) (sym e) tt
          | inr e ↦ subst (AllByRecursion (KeptBy Old)) (sym e)
              ((λ s p. old_same cs start s (with_change DraftMade s) p refl (λ n. refl)), tt)
        ];
        makes = λ s made p e. subst (AllByRecursion (KeptBy Before)) (sym e)
            ((λ a q. before_same a (with_change DraftMade a) q refl (λ n. refl)), (placed, tt));
        wider = λ s p. inl p;
        ended = λ s p. inr p;
      }
        where
          placed : KeptBy Before (DraftPlaced Plan)
          placed s (inl p) = inr (planned_now cs start s (with_change (DraftPlaced Plan) s) p refl (λ n. refl))
          placed s (inr p) =
              inr (planned_same cs start s (with_change (DraftPlaced Plan) s) p (sym p.paper) (λ n. refl))

      -- the first k new files are made
      abbrev Made : ℕ → Disk → Type 0
      Made k = IsHeld (PlannedWith cs start (λ c. Some c.new) k) Planned

      make_moves : (k : ℕ) → Moves cs (Make k) (PlannedWith cs start (λ c. Some c.new) k) Planned
          (PlannedWith cs start (λ c. Some c.new) (suc k)) Planned Planned
      make_moves k = record {
        part = λ s t p h. make_part cs start k s t p.0 h;
        whole = make_whole cs start apart k;
        in_part = λ made h. elim h [
          | inl e ↦ subst (AllByRecursion (KeptBy Planned)) (sym e) tt
          | inr (c, at, (part, e)) ↦ subst (AllByRecursion (KeptBy Planned)) (sym e) (made_keeps c at part, tt)
        ];
        makes = λ s made p (c, at, e). subst (AllByRecursion (KeptBy Planned)) (sym e) (made_keeps c at c.new, tt);
        wider = λ s p. p;
        ended = λ s p. p.0;
      }
        where
          made_keeps : (c : Renewal) → slice_get cs k ≡ Some c → (bytes : List ℕ)
              → KeptBy Planned (FileMade c.beside bytes)
          made_keeps c at bytes s p =
              planned_put cs start s (with_change (FileMade c.beside bytes) s) (Some bytes) k c p
              refl at (put_is s.file c.beside (Some bytes))

      at_made : (k : ℕ) (d : Disk) → Made k d → OnBefore d
      at_made k d h = inr (held_weaker (λ s p. p.0) (λ s p. inr p) d h)

      pub plan_leads : LeadsOn OnBefore (plan_steps (length cs)) (IsHeld Old Old) (IsHeld AllMade AllMade)
      plan_leads = leads_then (WritePlan ∷ []) (make_steps (length cs) ++ Sync ∷ [])
          (lead_synced apart plan_moves OnBefore (λ d h. inl (held_weaker (λ s p. p) (λ s p. inl p) d h)) (λ d h. inr h)
          refl)
          (leads_then (make_steps (length cs)) (Sync ∷ [])
          (leads_from (held_weaker (λ s p. (p, λ k c below at. absurd (omega arith))) (λ s p. p))
          (leads_each Make Made (λ k. lead apart (make_moves k) OnBefore
          (λ d h. inr (held_weaker (λ s p. p) (λ s p. inr p) d h)) (at_made (suc k))) (at_made zero) (length cs)))
          (lead_synced apart (sync_moves AllMade Planned (planned_with_same cs start (λ c. Some c.new) (length cs))
          (λ s p. p.0)) OnBefore (at_made (length cs)) (at_made (length cs)) refl))

      pub note_moves : IsReady cs start → Moves cs WriteNote AllMade AllMade Noted AllMade (λ s. AllMade s ⊎ Noted s)
      note_moves ready = record {
        part = λ s t p h. planned_with_same cs start (λ c. Some c.new) (length cs) s t p h.0 h.1;
        whole = λ s t p h. noted_now cs start apart s t ready p h.0 h.2;
        in_part = λ made h. elim h [
          | inl e ↦ subst (AllByRecursion (KeptBy AllMade)) (sym e) tt
          | inr e ↦ subst (AllByRecursion (KeptBy AllMade)) (sym e) (
            (λ s p.
                planned_with_same cs start (λ c. Some c.new) (length cs) s (with_change DraftMade s) p refl
                (λ n. refl)),
            tt,
          )
        ];
        makes = λ s made p e. subst (AllByRecursion (KeptBy (λ s. AllMade s ⊎ Noted s))) (sym e)
            ((λ a q. either a (with_change DraftMade a) q refl (λ n. refl)), (placed, tt));
        wider = λ s p. inl p;
        ended = λ s p. inr p;
      }
        where
          either : Blind (λ s. AllMade s ⊎ Noted s)
          either = blind_or AllMade Noted
              (planned_with_same cs start (λ c. Some c.new) (length cs)) (noted_same cs start)

          placed : KeptBy (λ s. AllMade s ⊎ Noted s) (DraftPlaced Note)
          placed s (inl p) =
              inr (noted_now cs start apart s (with_change (DraftPlaced Note) s) ready p refl (λ n. refl))
          placed s (inr p) =
              inr (noted_same cs start s (with_change (DraftPlaced Note) s) p (sym p.paper) (λ n. refl))

      -- what the folder on its device is while a note is being written, and after a stop then
      abbrev pub OnUnsure : Disk → Type 0
      OnUnsure d = (OnBefore d ⊎ OnBehind d) ⊎ IsHeld Noted Unsure d

      pub note_leads : IsReady cs start
          → LeadsOn OnUnsure (WriteNote ∷ []) (IsHeld AllMade AllMade) (IsHeld Noted Noted)
      note_leads ready = lead_synced apart (note_moves ready) OnUnsure
          (λ d h. inl (inl (inr (held_weaker (λ s p. p.0) (λ s p. inr p.0) d h))))
          (λ d h. inr (held_weaker (λ s p. p) (λ s q. elim q [ inl p ↦ inl p.0 | inr p ↦ inr p ]) d h)) refl

      pub save_leads : IsReady cs start → LeadsOn OnUnsure (save_steps (length cs)) (IsHeld Old Old) (IsHeld New New)
      save_leads ready = leads_then (plan_steps (length cs)) (WriteNote ∷ place_steps (length cs))
          (leads_within (λ d h. inl (inl h)) plan_leads)
          (leads_then (WriteNote ∷ []) (place_steps (length cs)) (note_leads ready)
          (leads_within (λ d h. inl (inr h)) place_leads))
