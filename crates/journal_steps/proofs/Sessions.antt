-- What sessions keep.
use Rattle.std.proofs.Common.{◌≡◌, ◌⊎◌, inl, inr, ◌≤◌, ℕ, suc, Bool, true, false, List, [], ◌∷◌, ◌++◌, Option, Some}
use Rattle.std.proofs.Common.{None, take, refl, sym, ap, subst, ◌∙◌, append_assoc, arith}
use Rattle.std.specs.List.{AllByRecursion}
use Rattle.std.specs.Option.{option_map}
use Rattle.std.proofs.lemmas.List.{append-nil}
use Rattle.std.proofs.lemmas.Option.{same_Some}
use Rattle.journal_steps.specs.Next.{next_of}
use Rattle.journal_steps.specs.Folder.{Folder, Tables, Old, New, Other, Moment, Session, MakeJournal, WriteBegun}
use Rattle.journal_steps.specs.Folder.{CutJournal, Take, WriteNote, Place, WriteDone, RemoveNote, are_old, empty_folder}
use Rattle.journal_steps.specs.Folder.{with_tables_placed, unlines, whole_lines, with_more_bytes, behind_deed}
use Rattle.journal_steps.specs.Folder.{StoppedAt, talk, last_deeds, begins, LeftBy}
use Rattle.journal_steps.specs.Folder.{Visit, Talks, Forgets, Changes, PutsBack, changed, put_back}
use Rattle.journal_steps.specs.Promise.{IsClean, AreClean, LinesStand, NothingLost, Passed, IsKeptAndSavedOnce}
use Rattle.journal_steps.proofs.Lines.{longer, whole_again, unlines_behind, read_clean, clean_append}

-- ---- the journal only grows

abbrev Grows : Folder → Folder → Type 0
Grows f g = (j : List ℕ) → f.journal ≡ Some j
    → (k : List ℕ) × (g.journal ≡ Some k) × ((x : List (List ℕ)) × (whole_lines k ≡ whole_lines j ++ x))

grows_same : (f g : Folder) → g.journal ≡ f.journal → Grows f g
grows_same f g e j is = (j, e ∙ is, ([], sym (append-nil (whole_lines j))))

grows_then : (f g h : Folder) → Grows f g → Grows g h → Grows f h
grows_then f g h p q j is =
    let a = p j is in
    let b = q a.0 a.1 in (
      b.0,
      b.1,
      (
        a.2.0 ++ b.2.0,
        b.2.1 ∙ ap (λ (x : List (List ℕ)). x ++ b.2.0) a.2.1
            ∙ append_assoc (whole_lines j) a.2.0 b.2.0,
      ),
    )

kept_moves : (f g : Folder) (lines : List (List ℕ)) → Grows f g → LinesStand f lines → LinesStand g lines
kept_moves f g lines grows kept =
    let a = grows kept.bytes kept.journal in
    record {
      bytes = a.0;
      journal = a.1;
      rest = kept.rest ++ a.2.0;
      first = a.2.1 ∙ ap (λ (x : List (List ℕ)). x ++ a.2.0) kept.first ∙ append_assoc lines kept.rest a.2.0;
    }

lost_moves : (f g : Folder) (lines : List (List ℕ)) → Grows f g → NothingLost f lines → NothingLost g lines
lost_moves f g lines grows (inl none) = inl none
lost_moves f g lines grows (inr kept) = inr (kept_moves f g lines grows kept)

-- ---- saves

-- nothing is saved in the tables, and what waits is of a conversation that was begun
abbrev Unsaved : Folder → Type 0
Unsaved f = (f.saves ≡ 0) × ((f.waits ≡ false) ⊎ (f.begun ≡ true))

-- what was typed is saved in them once; none is left to wait, and they aren't those of the beginning any more
abbrev Saved : Folder → Type 0
Saved f = (f.saves ≡ 1) × (f.waits ≡ false) × (f.begun ≡ true) × (are_old f.tables ≡ false)

abbrev Sound : Folder → Type 0
Sound f = Unsaved f ⊎ Saved f

place_sound : (f : Folder) (waits : Bool) → f.waits ≡ waits → Sound f → Sound (with_tables_placed waits f)
place_sound f false e sound = sound
place_sound f true e (inl (none, inl free)) = absurd cc
place_sound f true e (inl (none, inr begun)) = inr (ap suc none, refl, begun, refl)
place_sound f true e (inr (once, free, begun, other)) = absurd cc

place_journal : (f : Folder) (waits : Bool) → (with_tables_placed waits f).journal ≡ f.journal
place_journal f false = refl
place_journal f true = refl

remove_sound : (f : Folder) → Sound f → Sound (behind_deed RemoveNote f)
remove_sound f (inl (none, or)) = inl (none, inl refl)
remove_sound f (inr (once, free, begun, other)) = inr (once, refl, begun, other)

change_sound : (f : Folder) → Sound f → Sound (changed f)
change_sound f (inl unsaved) = inl unsaved
change_sound f (inr (once, free, begun, other)) = inr (once, free, begun, refl)

put_back_sound : (f : Folder) → Sound f → Sound (put_back f)
put_back_sound f (inl (none, or)) = inl (refl, or)
put_back_sound f (inr (once, free, begun, other)) = inl (refl, inl free)

-- what a session leaves, from a folder
record Result (f : Folder) (n : Moment) : Type 0 where
  pub grows : Grows f n.folder
  pub kept : NothingLost n.folder n.taken
  pub sound : Sound n.folder

-- a session whose machine took nothing left this folder
took_none : (f g : Folder) (n : Moment) → n.folder ≡ g → n.taken ≡ [] → Grows f g → Sound g → Result f n
took_none f g n e t grows sound = record {
  grows = subst (λ (x : Folder). Grows f x) (sym e) grows;
  kept = inl t;
  sound = subst Sound (sym e) sound;
}

-- ---- the end of a session

record End (m n : Moment) : Type 0 where
  pub taken : n.taken ≡ m.taken
  pub journal : n.folder.journal ≡ m.folder.journal
  pub sound : Sound n.folder

ends : (m n : Moment) (g : Folder) → n.folder ≡ g → n.taken ≡ m.taken → g.journal ≡ m.folder.journal → Sound g → End m n
ends m n g e t j sound = record {
  taken = t;
  journal = ap (λ (x : Folder). x.journal) e ∙ j;
  sound = subst Sound (sym e) sound;
}

end_stops : (saves : Bool) (m n : Moment) → m.folder.saves ≡ 0 → m.folder.begun ≡ true
    → StoppedAt (last_deeds saves) m n → End m n
end_stops false m n none begun (inl (inl e, t)) = ends m n m.folder e t refl (inl (none, inr begun))
end_stops false m n none begun (inl (inr e, t)) =
    ends m n (behind_deed WriteDone m.folder) e t refl (inl (none, inr begun))
end_stops false m n none begun (inr e) =
    ends m n (behind_deed WriteDone m.folder) (ap (λ (x : Moment). x.folder) e) (ap (λ (x : Moment). x.taken) e) refl
    (inl (none, inr begun))
end_stops true m n none begun (inl (inl e, t)) = ends m n m.folder e t refl (inl (none, inr begun))
end_stops true m n none begun (inl (inr e, t)) =
    ends m n (behind_deed WriteNote m.folder) e t refl (inl (none, inr begun))
end_stops true m n none begun (inr (inl (inl e, t))) =
    ends m n (behind_deed WriteNote m.folder) e t refl (inl (none, inr begun))
end_stops true m n none begun (inr (inl (inr e, t))) =
    ends m n (behind_deed Place (behind_deed WriteNote m.folder)) e t refl (inr (ap suc none, refl, begun, refl))
end_stops true m n none begun (inr (inr (inl (inl e, t)))) =
    ends m n (behind_deed Place (behind_deed WriteNote m.folder)) e t refl (inr (ap suc none, refl, begun, refl))
end_stops true m n none begun (inr (inr (inl (inr e, t)))) =
    ends m n (behind_deed WriteDone (behind_deed Place (behind_deed WriteNote m.folder))) e t refl
    (inr (ap suc none, refl, begun, refl))
end_stops true m n none begun (inr (inr (inr (inl (inl e, t))))) =
    ends m n (behind_deed WriteDone (behind_deed Place (behind_deed WriteNote m.folder))) e t refl
    (inr (ap suc none, refl, begun, refl))
end_stops true m n none begun (inr (inr (inr (inl (inr e, t))))) =
    ends m n (behind_deed RemoveNote (behind_deed WriteDone (behind_deed Place (behind_deed WriteNote m.folder)))) e t
    refl (inr (ap suc none, refl, begun, refl))
end_stops true m n none begun (inr (inr (inr (inr e)))) =
    ends m n (behind_deed RemoveNote (behind_deed WriteDone (behind_deed Place (behind_deed WriteNote m.folder))))
    (ap (λ (x : Moment). x.folder) e)
    (ap (λ (x : Moment). x.taken) e) refl (inr (ap suc none, refl, begun, refl))

-- ---- lines that are kept and taken

-- the journal holds the lines that the machine has taken, and nothing else; the conversation was begun, and nothing
-- saved
record IsExact (m : Moment) : Type 0 where
  pub journal : m.folder.journal ≡ Some (unlines m.taken)
  pub clean : AllByRecursion IsClean m.taken
  pub saves : m.folder.saves ≡ 0
  pub begun : m.folder.begun ≡ true

-- with so much more behind the journal
grown : (m : Moment) (g : Folder) (x : List ℕ) → IsExact m → g.journal ≡ option_map (λ j. j ++ x) m.folder.journal
    → (g.journal ≡ Some (unlines m.taken ++ x)) × LinesStand g m.taken × Grows m.folder g
grown m g x exact e =
    let holds : g.journal ≡ Some (unlines m.taken ++ x) = e ∙ ap (option_map (λ (j : List ℕ). j ++ x)) exact.journal in
    let more = longer [] (unlines m.taken) x in
    let first : whole_lines (unlines m.taken ++ x) ≡ m.taken ++ more.0 =
    more.1 ∙ ap (λ (ls : List (List ℕ)). ls ++ more.0) (whole_again m.taken exact.clean) in (
      holds,
      record { bytes = unlines m.taken ++ x; journal = holds; rest = more.0; first = first },
      λ j is.
          let same : j ≡ unlines m.taken = same_Some j (unlines m.taken) (sym is ∙ exact.journal) in
          (unlines m.taken ++ x, holds, (more.0, more.1 ∙ ap (λ (b : List ℕ). whole_lines b ++ more.0) (sym same))),
    )

stays : (m n : Moment) (g : Folder) (x : List ℕ) → IsExact m → n.folder ≡ g → n.taken ≡ m.taken
    → g.journal ≡ option_map (λ j. j ++ x) m.folder.journal → Sound g → Result m.folder n
stays m n g x exact e t j sound =
    let a = grown m g x exact j in record {
      grows = subst (λ (h : Folder). Grows m.folder h) (sym e) a.2;
      kept = inr (subst (λ (ls : List (List ℕ)). LinesStand n.folder ls) (sym t)
          (subst (λ (h : Folder). LinesStand h m.taken) (sym e) a.1));
      sound = subst Sound (sym e) sound;
    }

ended : (m n : Moment) → IsExact m → End m n → Result m.folder n
ended m n exact end =
    let kept : LinesStand n.folder m.taken = record {
      bytes = unlines m.taken;
      journal = end.journal ∙ exact.journal;
      rest = [];
      first = whole_again m.taken exact.clean ∙ sym (append-nil m.taken);
    } in record {
      grows = grows_same m.folder n.folder end.journal;
      kept = inr (subst (λ (ls : List (List ℕ)). LinesStand n.folder ls) (sym end.taken) kept);
      sound = end.sound;
    }

talk_stops : (lines : List (List ℕ)) (saves : Bool) (m n : Moment) → AllByRecursion IsClean lines → IsExact m
    → StoppedAt (talk lines ++ last_deeds saves) m n → Result m.folder n
talk_stops [] saves m n clean exact h = ended m n exact (end_stops saves m n exact.saves exact.begun h)
talk_stops (l ∷ ls) saves m n clean exact (inl ((k, e), t)) =
    stays m n (with_more_bytes (take k (l ++ 10 ∷ [])) m.folder) (take k (l ++ 10 ∷ [])) exact e t refl
    (inl (exact.saves, inr exact.begun))
talk_stops (l ∷ ls) saves m n clean exact (inr (inl (inl e, t))) =
    stays m n (with_more_bytes (l ++ 10 ∷ []) m.folder) (l ++ 10 ∷ []) exact e t refl
    (inl (exact.saves, inr exact.begun))
talk_stops (l ∷ ls) saves m n clean exact (inr (inl (inr e, t))) =
    stays m n (with_more_bytes (l ++ 10 ∷ []) m.folder) (l ++ 10 ∷ []) exact e t refl
    (inl (exact.saves, inr exact.begun))
talk_stops (l ∷ ls) saves m n (here, clean) exact (inr (inr h)) =
    let a = grown m (with_more_bytes (l ++ 10 ∷ []) m.folder) (l ++ 10 ∷ []) exact refl in
    let next : Moment = record { folder = with_more_bytes (l ++ 10 ∷ []) m.folder; taken = m.taken ++ l ∷ [] } in
    let then : IsExact next = record {
      journal = a.0 ∙ ap (λ (b : List ℕ). Some b) (sym (unlines_behind m.taken (l ∷ [])));
      clean = clean_append m.taken (l ∷ []) exact.clean (here, tt);
      saves = exact.saves;
      begun = exact.begun;
    } in
    let r = talk_stops ls saves (record { folder = with_more_bytes (l ++ 10 ∷ []) m.folder; taken = m.taken ++ l ∷ [] })
    n clean then h in
    record {
      grows = grows_then m.folder (with_more_bytes (l ++ 10 ∷ []) m.folder) n.folder a.2 r.grows;
      kept = r.kept;
      sound = r.sound;
    }

-- ---- a session

-- nothing is saved in the tables of the beginning, nor where nothing was begun
unsaved : (f : Folder) → Sound f → are_old f.tables ≡ true → f.saves ≡ 0
unsaved f (inl (none, or)) old = none
unsaved f (inr (once, free, begun, other)) old = absurd cc

unbegun : (f : Folder) → Sound f → f.begun ≡ false → Unsaved f
unbegun f (inl is) free = is
unbegun f (inr (once, waits, begun, other)) free = absurd cc

no_journal : (f g : Folder) → f.journal ≡ None → Grows f g
no_journal f g none j is = absurd cc

empty_journal : (f : Folder) → f.journal ≡ Some [] → Grows f (behind_deed MakeJournal f)
empty_journal f here = grows_same f (behind_deed MakeJournal f) (sym here)

begin_stops : (f : Folder) (s : Session) (n : Moment) → AllByRecursion IsClean s.typed
    → Grows f (behind_deed MakeJournal f) → Unsaved f
    → StoppedAt (MakeJournal ∷ WriteBegun ∷ talk s.typed ++ last_deeds s.saves) (begins f) n → Result f n
begin_stops f s n clean fresh is (inl (inl e, t)) =
    took_none f f n e t (grows_same f f refl) (inl is)
begin_stops f s n clean fresh is (inl (inr e, t)) =
    took_none f (behind_deed MakeJournal f) n e t fresh (inl is)
begin_stops f s n clean fresh is (inr (inl (inl e, t))) =
    took_none f (behind_deed MakeJournal f) n e t fresh (inl is)
begin_stops f s n clean fresh is (inr (inl (inr e, t))) =
    took_none f (behind_deed WriteBegun (behind_deed MakeJournal f)) n e t fresh (inl (is.0, inr refl))
begin_stops f s n clean fresh is (inr (inr h)) =
    let exact : IsExact (begins (behind_deed WriteBegun (behind_deed MakeJournal f))) =
    record { journal = refl; clean = tt; saves = is.0; begun = refl } in
    let r = talk_stops s.typed s.saves (begins (behind_deed WriteBegun (behind_deed MakeJournal f))) n clean exact h in
    record {
      grows = grows_then f (behind_deed WriteBegun (behind_deed MakeJournal f)) n.folder fresh r.grows;
      kept = r.kept;
      sound = r.sound;
    }

-- the journal cut behind its last LF
cut_grows : (f : Folder) (j : List ℕ) → f.journal ≡ Some j → Grows f (behind_deed CutJournal f)
cut_grows f j here i is =
    let same : i ≡ j = same_Some i j (sym is ∙ here) in
    let lines = whole_lines j in (
      unlines (whole_lines j),
      ap (option_map (λ (b : List ℕ). unlines (whole_lines b))) here,
      (
        [],
        whole_again (whole_lines j) (read_clean [] j tt) ∙ ap whole_lines (sym same)
            ∙ sym (append-nil (whole_lines i)),
      ),
    )

go_on_stops : (f : Folder) (j : List ℕ) (s : Session) (n : Moment) → AllByRecursion IsClean s.typed → f.journal ≡ Some j
    → f.saves ≡ 0 → f.begun ≡ true
    → StoppedAt (CutJournal ∷ Take (whole_lines j) ∷ talk s.typed ++ last_deeds s.saves) (begins f) n → Result f n
go_on_stops f j s n clean here saves begun (inl (inl e, t)) =
    took_none f f n e t (grows_same f f refl) (inl (saves, inr begun))
go_on_stops f j s n clean here saves begun (inl (inr e, t)) =
    took_none f (behind_deed CutJournal f) n e t (cut_grows f j here) (inl (saves, inr begun))
go_on_stops f j s n clean here saves begun (inr (inl (inl e, t))) =
    took_none f (behind_deed CutJournal f) n e t (cut_grows f j here) (inl (saves, inr begun))
go_on_stops f j s n clean here saves begun (inr (inl (inr e, t))) =
    took_none f (behind_deed CutJournal f) n e t (cut_grows f j here) (inl (saves, inr begun))
go_on_stops f j s n clean here saves begun (inr (inr h)) =
    let exact : IsExact (record { folder = behind_deed CutJournal f; taken = whole_lines j }) = record {
      journal = ap (option_map (λ (b : List ℕ). unlines (whole_lines b))) here;
      clean = read_clean [] j tt;
      saves = saves;
      begun = begun;
    } in
    let r = talk_stops s.typed s.saves (record { folder = behind_deed CutJournal f; taken = whole_lines j }) n clean
    exact h in
    record {
      grows = grows_then f (behind_deed CutJournal f) n.folder (cut_grows f j here) r.grows;
      kept = r.kept;
      sound = r.sound;
    }

-- a save that a note tells of, carried to its end
finish_stops : (f : Folder) (n : Moment) → Sound f → StoppedAt (Place ∷ WriteDone ∷ RemoveNote ∷ []) (begins f) n
    → Result f n × (n.taken ≡ [])
finish_stops f n sound (inl (inl e, t)) = (took_none f f n e t (grows_same f f refl) sound, t)
finish_stops f n sound (inl (inr e, t)) = (
  took_none f (with_tables_placed f.waits f) n e t
      (grows_same f (with_tables_placed f.waits f) (place_journal f f.waits)) (place_sound f f.waits refl sound),
  t,
)
finish_stops f n sound (inr (inl (inl e, t))) = (
  took_none f (with_tables_placed f.waits f) n e t
      (grows_same f (with_tables_placed f.waits f) (place_journal f f.waits)) (place_sound f f.waits refl sound),
  t,
)
finish_stops f n sound (inr (inl (inr e, t))) = (
  took_none f (behind_deed WriteDone (with_tables_placed f.waits f)) n e t
      (grows_same f (behind_deed WriteDone (with_tables_placed f.waits f)) (place_journal f f.waits))
      (place_sound f f.waits refl sound),
  t,
)
finish_stops f n sound (inr (inr (inl (inl e, t)))) = (
  took_none f (behind_deed WriteDone (with_tables_placed f.waits f)) n e t
      (grows_same f (behind_deed WriteDone (with_tables_placed f.waits f)) (place_journal f f.waits))
      (place_sound f f.waits refl sound),
  t,
)
finish_stops f n sound (inr (inr (inl (inr e, t)))) = (
  took_none f (behind_deed RemoveNote (behind_deed WriteDone (with_tables_placed f.waits f))) n e t
      (grows_same f (behind_deed RemoveNote (behind_deed WriteDone (with_tables_placed f.waits f)))
      (place_journal f f.waits))
      (remove_sound (behind_deed WriteDone (with_tables_placed f.waits f)) (place_sound f f.waits refl sound)),
  t,
)
finish_stops f n sound (inr (inr (inr e))) =
    let t : n.taken ≡ [] = ap (λ (x : Moment). x.taken) e in (
      took_none f (behind_deed RemoveNote (behind_deed WriteDone (with_tables_placed f.waits f))) n
          (ap (λ (x : Moment). x.folder) e) t
          (grows_same f (behind_deed RemoveNote (behind_deed WriteDone (with_tables_placed f.waits f)))
          (place_journal f f.waits))
          (remove_sound (behind_deed WriteDone (with_tables_placed f.waits f)) (place_sound f f.waits refl sound)),
      t,
    )

idle : (f : Folder) (n : Moment) → Sound f → n ≡ begins f → Result f n × (n.taken ≡ [])
idle f n sound e =
    let t : n.taken ≡ [] = ap (λ (x : Moment). x.taken) e in
    (took_none f f n (ap (λ (x : Moment). x.folder) e) t (grows_same f f refl) sound, t)

abbrev folder_of : Option (List ℕ) → Bool → Bool → Bool → Bool → Tables → ℕ → Folder
folder_of journal begun noted waits done tables saves =
    record {
      journal = journal;
      begun = begun;
      noted = noted;
      waits = waits;
      done = done;
      tables = tables;
      saves = saves;
    }

-- over tables in which what was typed is saved the machine of a session takes nothing, nor over changed ones where it
-- goes on; and each session keeps what it should
by_cases : (journal : Option (List ℕ)) (begun noted waits done : Bool) (tables : Tables) (saves : ℕ) (goes_on : Bool)
    (typed : List (List ℕ)) (at_end : Bool) (n : Moment) → Sound (folder_of journal begun noted waits done tables saves)
    → LeftBy (record { goes_on = goes_on; typed = typed; saves = at_end })
    (folder_of journal begun noted waits done tables saves) n
    → (AllByRecursion IsClean typed → Result (folder_of journal begun noted waits done tables saves) n)
    × (saves ≡ 1 → n.taken ≡ [])
    × (goes_on ≡ true → are_old tables ≡ false → n.taken ≡ [])
unfolding next_of
by_cases journal begun true waits done tables saves goes_on typed at_end n sound h =
    let r = finish_stops (folder_of journal begun true waits done tables saves) n sound h in
    (λ _. r.0, λ _. r.1, λ _ _. r.1)
by_cases journal begun false waits true tables saves true typed at_end n sound h =
    let r = idle (folder_of journal begun false waits true tables saves) n sound h in (λ _. r.0, λ _. r.1, λ _ _. r.1)
by_cases (Some []) true false waits false Old saves true typed at_end n sound h =
    let none : saves ≡ 0 = unsaved (folder_of (Some []) true false waits false Old saves) sound refl in (
      λ clean. go_on_stops (folder_of (Some []) true false waits false Old saves) []
          (record { goes_on = true; typed = typed; saves = at_end }) n clean refl none refl h,
      λ once. absurd cc,
      λ goes other. absurd cc,
    )
by_cases (Some []) true false waits false New saves true typed at_end n sound h =
    let r = idle (folder_of (Some []) true false waits false New saves) n sound h in (λ _. r.0, λ _. r.1, λ _ _. r.1)
by_cases (Some []) true false waits false Other saves true typed at_end n sound h =
    let r = idle (folder_of (Some []) true false waits false Other saves) n sound h in (λ _. r.0, λ _. r.1, λ _ _. r.1)
by_cases (Some (b ∷ bs)) true false waits false Old saves true typed at_end n sound h =
    let none : saves ≡ 0 = unsaved (folder_of (Some (b ∷ bs)) true false waits false Old saves) sound refl in (
      λ clean. go_on_stops (folder_of (Some (b ∷ bs)) true false waits false Old saves) (b ∷ bs)
          (record { goes_on = true; typed = typed; saves = at_end }) n clean refl none refl h,
      λ once. absurd cc,
      λ goes other. absurd cc,
    )
by_cases (Some (b ∷ bs)) true false waits false New saves true typed at_end n sound h =
    let r = idle (folder_of (Some (b ∷ bs)) true false waits false New saves) n sound h in
    (λ _. r.0, λ _. r.1, λ _ _. r.1)
by_cases (Some (b ∷ bs)) true false waits false Other saves true typed at_end n sound h =
    let r = idle (folder_of (Some (b ∷ bs)) true false waits false Other saves) n sound h in
    (λ _. r.0, λ _. r.1, λ _ _. r.1)
by_cases (Some []) false false waits false tables saves true typed at_end n sound h =
    let r = idle (folder_of (Some []) false false waits false tables saves) n sound h in
    (λ _. r.0, λ _. r.1, λ _ _. r.1)
by_cases (Some (b ∷ bs)) false false waits false tables saves true typed at_end n sound h =
    let r = idle (folder_of (Some (b ∷ bs)) false false waits false tables saves) n sound h in
    (λ _. r.0, λ _. r.1, λ _ _. r.1)
by_cases None begun false waits false tables saves true typed at_end n sound h =
    let r = idle (folder_of None begun false waits false tables saves) n sound h in (λ _. r.0, λ _. r.1, λ _ _. r.1)
by_cases (Some (b ∷ bs)) begun false waits done tables saves false typed at_end n sound h =
    let r = idle (folder_of (Some (b ∷ bs)) begun false waits done tables saves) n sound h in
    (λ _. r.0, λ _. r.1, λ _ _. r.1)
by_cases (Some []) true false waits done tables saves false typed at_end n sound h =
    let r = idle (folder_of (Some []) true false waits done tables saves) n sound h in (λ _. r.0, λ _. r.1, λ _ _. r.1)
by_cases (Some []) false false waits true tables saves false typed at_end n sound h =
    let r = idle (folder_of (Some []) false false waits true tables saves) n sound h in (λ _. r.0, λ _. r.1, λ _ _. r.1)
by_cases (Some []) false false waits false tables saves false typed at_end n sound h =
    let is : Unsaved (folder_of (Some []) false false waits false tables saves) =
    unbegun (folder_of (Some []) false false waits false tables saves) sound refl in (
      λ clean. begin_stops (folder_of (Some []) false false waits false tables saves)
          (record { goes_on = false; typed = typed; saves = at_end }) n clean
          (empty_journal (folder_of (Some []) false false waits false tables saves) refl) is h,
      λ once. let none : saves ≡ 0 = is.0 in absurd cc,
      λ goes other. absurd cc,
    )
by_cases None true false waits done tables saves false typed at_end n sound h =
    let r = idle (folder_of None true false waits done tables saves) n sound h in (λ _. r.0, λ _. r.1, λ _ _. r.1)
by_cases None false false waits true tables saves false typed at_end n sound h =
    let r = idle (folder_of None false false waits true tables saves) n sound h in (λ _. r.0, λ _. r.1, λ _ _. r.1)
by_cases None false false waits false tables saves false typed at_end n sound h =
    let is : Unsaved (folder_of None false false waits false tables saves) =
    unbegun (folder_of None false false waits false tables saves) sound refl in (
      λ clean. begin_stops (folder_of None false false waits false tables saves)
          (record { goes_on = false; typed = typed; saves = at_end }) n clean
          (no_journal (folder_of None false false waits false tables saves)
          (behind_deed MakeJournal (folder_of None false false waits false tables saves)) refl) is h,
      λ once. let none : saves ≡ 0 = is.0 in absurd cc,
      λ goes other. absurd cc,
    )

session : (s : Session) (f : Folder) (n : Moment) → Sound f → LeftBy s f n
    → (AllByRecursion IsClean s.typed → Result f n) × (f.saves ≡ 1 → n.taken ≡ [])
    × (s.goes_on ≡ true → are_old f.tables ≡ false → n.taken ≡ [])
session s f n sound h = by_cases f.journal f.begun f.noted f.waits f.done f.tables f.saves s.goes_on s.typed s.saves n
    sound h

-- ---- visits in turn

passes : (vs : List Visit) (f : Folder) (all : List (List (List ℕ))) (g : Folder) → AreClean vs → Sound f
    → Passed vs f all g
    → Grows f g × AllByRecursion (NothingLost g) all × Sound g
passes [] f all g clean sound (none, e) = (
  grows_same f g (ap (λ (x : Folder). x.journal) e),
  subst (AllByRecursion (NothingLost g)) (sym none) tt,
  subst Sound (sym e) sound,
)
passes (Talks s ∷ vs) f all g (here, clean) sound (m, rest, leaves, e, passed) =
    let r = (session s f m sound leaves).0 here in
    let q = passes vs m.folder rest g clean r.sound passed in (
      grows_then f m.folder g r.grows q.0,
      subst (AllByRecursion (NothingLost g)) (sym e) (lost_moves m.folder g m.taken q.0 r.kept, q.1),
      q.2,
    )
passes (Forgets ∷ vs) f all g (here, clean) sound passed =
    let q = passes vs (behind_deed RemoveNote f) all g clean (remove_sound f sound) passed in
    (grows_then f (behind_deed RemoveNote f) g (grows_same f (behind_deed RemoveNote f) refl) q.0, q.1, q.2)
passes (Changes ∷ vs) f all g (here, clean) sound passed =
    let q = passes vs (changed f) all g clean (change_sound f sound) passed in
    (grows_then f (changed f) g (grows_same f (changed f) refl) q.0, q.1, q.2)
passes (PutsBack ∷ vs) f all g (here, clean) sound passed =
    let q = passes vs (put_back f) all g clean (put_back_sound f sound) passed in
    (grows_then f (put_back f) g (grows_same f (put_back f) refl) q.0, q.1, q.2)

at_most_once : (f : Folder) → Sound f → f.saves ≤ 1
at_most_once f (inl (none, or)) = omega (arith, none)
at_most_once f (inr (once, free, begun, other)) = omega (arith, once)

pub kept_and_saved_once : (vs : List Visit) → AreClean vs → IsKeptAndSavedOnce vs
kept_and_saved_once vs clean =
    let begun : Sound empty_folder = inl (refl, inl refl) in record {
      kept = λ all g passed. (passes vs empty_folder all g clean begun passed).1;
      once = λ all g passed. at_most_once g (passes vs empty_folder all g clean begun passed).2;
      then_none = λ all f passed once s m leaves.
          (session s f m (passes vs empty_folder all f clean begun passed).2 leaves).1 once;
      unchanged = λ all f passed other s m goes leaves.
          (session s f m (passes vs empty_folder all f clean begun passed).2 leaves).2 goes other;
    }
