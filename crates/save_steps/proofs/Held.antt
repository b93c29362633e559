-- What a step keeps of a folder on its device.
use Rattle.std.proofs.Common.{◌≡◌, ◌≢◌, inl, inr, ℕ, Bool, true, false, List, [], ◌∷◌, ◌++◌, Option, Some, None}
use Rattle.std.proofs.Common.{refl, sym, ◌∙◌, subst}
use Rattle.std.specs.List.{AllByRecursion}
use Rattle.std.specs.Prelude.{MatchOption}
use Rattle.save_steps.specs.declared.steps.Step.{Step}
use Rattle.save_steps.specs.declared.steps.Step.TheVariants.{WritePlan, Make, Sync, WriteNote, Place, Unmake}
use Rattle.save_steps.specs.declared.steps.Step.TheVariants.{RemovePaper, RemoveDraft}
use Rattle.save_steps.specs.Devices.{NameChange, FileMoved}
use Rattle.save_steps.specs.Devices.{put_under, with_change, with_all, WithSome, Disk, synced, IsPending, IsSynced, LeavesOn}
use Rattle.save_steps.specs.Devices.{MakesChanges, MakesInPart, ends_synced, IsMade, DidOn, MayLeaveOn, InPart, NotSynced}
use Rattle.save_steps.specs.Devices.{InWhole}
use Rattle.save_steps.specs.Folders.{Files, FolderStands, Renewal, NamesAreApart, Same, IsPut, IsRenamed, IsPlacing}
use Rattle.save_steps.specs.Folders.{KeepsPapers, Did, DidInPart}
use Rattle.save_steps.proofs.Judged.{same_bytes, other_bytes}
use Rattle.save_steps.proofs.Runs.{Leads, leads_step}

-- S is seen, a sync would bring S to the device, and a power cut leaves L.
pub record IsHeld (S L : FolderStands → Type 0) (d : Disk) : Type 0 where
  pub seen : S d.seen
  pub next : S (synced d)
  pub left : (t : FolderStands) → WithSome d.pending d.kept t → L t

pub held_weaker : {S T L M : FolderStands → Type 0} → ((s : FolderStands) → S s → T s)
    → ((s : FolderStands) → L s → M s) → (d : Disk) → IsHeld S L d → IsHeld T M d
held_weaker f g d h = record {
  seen = f d.seen h.seen;
  next = f (synced d) h.next;
  left = λ t some. g t (h.left t some);
}

-- ---- changes in a row

all_joined : (xs ys : List NameChange) (s : FolderStands) → with_all (xs ++ ys) s ≡ with_all ys (with_all xs s)
all_joined [] ys s = refl
all_joined (x ∷ xs) ys s = all_joined xs ys (with_change x s)

some_parted : (xs ys : List NameChange) (s t : FolderStands) → WithSome (xs ++ ys) s t
    → (m : FolderStands) × WithSome xs s m × WithSome ys m t
some_parted [] ys s t h = (s, refl, h)
some_parted (x ∷ xs) ys s t (inl h) = let k = some_parted xs ys s t h in (k.0, inl k.1, k.2)
some_parted (x ∷ xs) ys s t (inr h) = let k = some_parted xs ys (with_change x s) t h in (k.0, inr k.1, k.2)

pub all_some : (xs : List NameChange) (s : FolderStands) → WithSome xs s (with_all xs s)
all_some [] s = refl
all_some (x ∷ xs) s = inr (all_some xs (with_change x s))

-- the change keeps it
abbrev pub KeptBy : (FolderStands → Type 0) → NameChange → Type 0
KeptBy L change = (s : FolderStands) → L s → L (with_change change s)

some_keeps : (L : FolderStands → Type 0) (xs : List NameChange) (s t : FolderStands) → AllByRecursion (KeptBy L) xs → L s
    → WithSome xs s t → L t
some_keeps L [] s t keeps p e = subst L (sym e) p
some_keeps L (x ∷ xs) s t (here, keeps) p (inl h) = some_keeps L xs s t keeps p h
some_keeps L (x ∷ xs) s t (here, keeps) p (inr h) = some_keeps L xs (with_change x s) t keeps (here s p) h

-- ---- the changes of a step do what the step does

pub put_is : (f : Files) (name : List ℕ) (found : Option (List ℕ)) → IsPut f name found (put_under f name found)
unfolding put_under
put_is f name found = record {
  here = rw (same_bytes name) refl;
  others = λ n ne. rw (other_bytes n name ne) refl;
}

-- the files with one that was renamed
pub moved_puts : (f : Files) (first second bytes : List ℕ) → first ≢ second
    → (put_under (put_under f second (Some bytes)) first None second ≡ Some bytes)
    × (put_under (put_under f second (Some bytes)) first None first ≡ None)
    × ((n : List ℕ) → n ≢ first → n ≢ second → put_under (put_under f second (Some bytes)) first None n ≡ f n)
unfolding put_under
moved_puts f first second bytes ne = (
  rw (other_bytes second first (λ e. ne (sym e)), same_bytes second) refl,
  rw (same_bytes first) refl,
  λ n not_first not_second. rw (other_bytes n first not_first, other_bytes n second not_second) refl,
)

moved_is : (f : Files) (first second bytes : List ℕ) → first ≢ second → f first ≡ Some bytes
    → IsRenamed f first second (put_under (put_under f second (Some bytes)) first None)
moved_is f first second bytes ne e =
    let puts = moved_puts f first second bytes ne in
    record { there = puts.0 ∙ sym e; gone = puts.1; others = puts.2 }

-- the changes place the file
abbrev Placing : FolderStands → Renewal → List NameChange → Type 0
Placing s c made = KeepsPapers s (with_all made s) × IsPlacing s.file c (with_all made s).file

module _ (cs : List Renewal) where
  part_is : (x : Step) (s : FolderStands) (made : List NameChange) → MakesInPart cs x made
      → DidInPart cs x s (with_all made s)
  part_is WritePlan s made (inl e) =
      subst (λ (ms : List NameChange). DidInPart cs WritePlan s (with_all ms s)) (sym e) (refl, λ n. refl)
  part_is WritePlan s made (inr e) =
      subst (λ (ms : List NameChange). DidInPart cs WritePlan s (with_all ms s)) (sym e) (refl, λ n. refl)
  part_is WriteNote s made (inl e) =
      subst (λ (ms : List NameChange). DidInPart cs WriteNote s (with_all ms s)) (sym e) (refl, λ n. refl)
  part_is WriteNote s made (inr e) =
      subst (λ (ms : List NameChange). DidInPart cs WriteNote s (with_all ms s)) (sym e) (refl, λ n. refl)
  part_is (Make k) s made (inl e) =
      subst (λ (ms : List NameChange). DidInPart cs (Make k) s (with_all ms s)) (sym e) (refl, inl (λ n. refl))
  part_is (Make k) s made (inr (c, at, (part, e))) =
      subst (λ (ms : List NameChange). DidInPart cs (Make k) s (with_all ms s)) (sym e)
      (refl, inr (c, at, (part, put_is s.file c.beside (Some part))))
  part_is Sync s made e =
      subst (λ (ms : List NameChange). DidInPart cs Sync s (with_all ms s)) (sym e) (refl, λ n. refl)
  part_is (Place k) s made e =
      subst (λ (ms : List NameChange). DidInPart cs (Place k) s (with_all ms s)) (sym e) (refl, λ n. refl)
  part_is (Unmake k) s made e =
      subst (λ (ms : List NameChange). DidInPart cs (Unmake k) s (with_all ms s)) (sym e) (refl, λ n. refl)
  part_is RemoveDraft s made e =
      subst (λ (ms : List NameChange). DidInPart cs RemoveDraft s (with_all ms s)) (sym e) (refl, λ n. refl)
  part_is RemovePaper s made e =
      subst (λ (ms : List NameChange). DidInPart cs RemovePaper s (with_all ms s)) (sym e) (refl, λ n. refl)

  module _ (apart : NamesAreApart cs) where
    pub makes_is : (x : Step) (s : FolderStands) (made : List NameChange) → MakesChanges cs x s made → Did cs x s (with_all made s)
    makes_is WritePlan s made e =
        subst (λ (ms : List NameChange). Did cs WritePlan s (with_all ms s)) (sym e) (refl, refl, λ n. refl)
    makes_is WriteNote s made e =
        subst (λ (ms : List NameChange). Did cs WriteNote s (with_all ms s)) (sym e) (refl, refl, λ n. refl)
    makes_is (Make k) s made (c, at, e) =
        subst (λ (ms : List NameChange). Did cs (Make k) s (with_all ms s)) (sym e)
        ((refl, refl), (c, at, put_is s.file c.beside (Some c.new)))
    makes_is (Unmake k) s made (c, at, e) =
        subst (λ (ms : List NameChange). Did cs (Unmake k) s (with_all ms s)) (sym e)
        ((refl, refl), (c, at, put_is s.file c.beside None))
    makes_is Sync s made e =
        subst (λ (ms : List NameChange). Did cs Sync s (with_all ms s)) (sym e) ((refl, refl), λ n. refl)
    makes_is RemoveDraft s made e =
        subst (λ (ms : List NameChange). Did cs RemoveDraft s (with_all ms s)) (sym e) (refl, refl, λ n. refl)
    makes_is RemovePaper s made e =
        subst (λ (ms : List NameChange). Did cs RemovePaper s (with_all ms s)) (sym e) (refl, refl, λ n. refl)
    makes_is (Place k) s made (c, at, h) = let p = placed (s.file c.beside) refl h in (p.0, (c, at, p.1))
      where
        placed : (found : Option (List ℕ)) → s.file c.beside ≡ found
            → MatchOption found (made ≡ []) (λ bytes. made ≡ FileMoved c.beside c.name bytes ∷ [])
            → Placing s c made
        placed None e h = subst (Placing s c) (sym h) (
          (refl, refl),
          subst (λ (o : Option (List ℕ)). MatchOption o (Same s.file s.file)
              (λ _. IsRenamed s.file c.beside c.name s.file)) (sym e) (λ n. refl),
        )
        placed (Some bytes) e h =
            let ne : c.beside ≢ c.name = λ same. apart.crossed k k c c at at (sym same) in
            let after : Files = put_under (put_under s.file c.name (Some bytes)) c.beside None in
            subst (Placing s c) (sym h) (
              (refl, refl),
              subst (λ (o : Option (List ℕ)). MatchOption o (Same s.file after)
                  (λ _. IsRenamed s.file c.beside c.name after)) (sym e) (moved_is s.file c.beside c.name bytes ne e),
            )

-- ---- a step on a device

-- In a folder the step leads from S to T, and a stop within it leaves R. Its changes keep L, and those of a part of it
-- keep K.
pub record Moves (cs : List Renewal) (x : Step) (S R T K L : FolderStands → Type 0) : Type 0 where
  pub part : (s t : FolderStands) → S s → DidInPart cs x s t → R t
  pub whole : (s t : FolderStands) → S s → Did cs x s t → T t
  pub in_part : (made : List NameChange) → MakesInPart cs x made → AllByRecursion (KeptBy K) made
  pub makes : (s : FolderStands) (made : List NameChange) → S s → MakesChanges cs x s made → AllByRecursion (KeptBy L) made
  pub wider : (s : FolderStands) → K s → L s
  pub ended : (s : FolderStands) → T s → L s

module _ {cs : List Renewal} (apart : NamesAreApart cs) {x : Step} {S R T K L : FolderStands → Type 0}
    (moves : Moves cs x S R T K L) where
  module _ (d : Disk) (made : List NameChange) (e : Disk) (h : IsHeld S K d) where
    next_pending : IsPending d made e → synced e ≡ with_all made (synced d)
    next_pending (kept, pending) =
        subst (λ (ms : List NameChange). with_all ms e.kept ≡ with_all made (synced d)) (sym pending)
        (subst (λ (s : FolderStands). with_all (d.pending ++ made) s ≡ with_all made (synced d)) (sym kept)
        (all_joined d.pending made d.kept))

    left_pending : (M : FolderStands → Type 0) → ((s : FolderStands) → K s → M s) → IsPending d made e
        → AllByRecursion (KeptBy M) made → (t : FolderStands) → WithSome e.pending e.kept t → M t
    left_pending M wider (kept, pending) keeps t some =
        let here : WithSome (d.pending ++ made) d.kept t =
        subst (λ (s : FolderStands). WithSome (d.pending ++ made) s t) kept
        (subst (λ (ms : List NameChange). WithSome ms e.kept t) pending some) in
        let parts = some_parted d.pending made d.kept t here in
        some_keeps M made parts.0 t keeps (wider parts.0 (h.left parts.0 parts.1)) parts.2

    pub part_held : MakesInPart cs x made → DidInPart cs x d.seen e.seen → IsPending d made e → IsHeld R K e
    part_held m seen pending = record {
      seen = moves.part d.seen e.seen h.seen seen;
      next = subst R (sym (next_pending pending))
          (moves.part (synced d) (with_all made (synced d)) h.next (part_is cs x (synced d) made m));
      left = left_pending K (λ s p. p) pending (moves.in_part made m);
    }

    -- what a sync would bring to the device after the whole step
    next_whole : IsMade cs x d made e → T (with_all made (synced d))
    next_whole is = moves.whole (synced d) (with_all made (synced d)) h.next
        (makes_is cs apart x (synced d) made is.makes)

    pending_held : IsMade cs x d made e → IsPending d made e → IsHeld T L e
    pending_held is pending = record {
      seen = moves.whole d.seen e.seen h.seen is.seen;
      next = subst T (sym (next_pending pending)) (next_whole is);
      left = left_pending L moves.wider pending (moves.makes (synced d) made h.next is.makes);
    }

    synced_held : IsMade cs x d made e → IsSynced d made e → IsHeld T T e
    synced_held is (kept, pending) =
        let there : T e.kept = subst T (sym (kept ∙ all_joined d.pending made d.kept)) (next_whole is) in
        record {
          seen = moves.whole d.seen e.seen h.seen is.seen;
          next = subst (λ (ms : List NameChange). T (with_all ms e.kept)) (sym pending) there;
          left = λ t some. subst T (sym (subst (λ (ms : List NameChange). WithSome ms e.kept t) pending some)) there;
        }

    left_held : (b : Bool) → IsMade cs x d made e → LeavesOn b d made e → IsHeld T L e
    left_held true is here = held_weaker (λ s p. p) moves.ended e (synced_held is here)
    left_held false is here = pending_held is here

  did_held : (d e : Disk) → IsHeld S K d → DidOn cs x d e → IsHeld T L e
  did_held d e h did = left_held d did.made e h (ends_synced x) did.is did.left

  module _ (X : Disk → Type 0) (parts : (d : Disk) → IsHeld R K d → X d) (ends : (d : Disk) → IsHeld T L d → X d)
    where
      short : (d e : Disk) → IsHeld S K d → MayLeaveOn cs x d e → X e
      short d e h (InPart made m seen pending) = parts e (part_held d made e h m seen pending)
      short d e h (NotSynced made is pending) = ends e (pending_held d made e h is pending)
      short d e h (InWhole did) = ends e (did_held d e h did)

      pub lead : Leads (DidOn cs) (MayLeaveOn cs) X (x ∷ []) (IsHeld S K) (IsHeld T L)
      lead = leads_step x did_held short ends

      pub lead_synced : ends_synced x ≡ true → Leads (DidOn cs) (MayLeaveOn cs) X (x ∷ []) (IsHeld S K) (IsHeld T T)
      lead_synced is = leads_step x
          (λ d e h did. synced_held d did.made e h did.is
          (subst (λ (b : Bool). LeavesOn b d did.made e) is did.left)) short
          (λ d h. ends d (held_weaker (λ s p. p) moves.ended d h))
