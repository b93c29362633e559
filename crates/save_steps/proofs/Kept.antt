-- What each step keeps in a folder, and what it leads to.
use Rattle.std.proofs.Common.{◌≡◌, ◌≢◌, ◌⊎◌, inl, inr, ℕ, zero, suc, ◌<◌, List, [], ◌∷◌, Option, Some, None, slice_get}
use Rattle.std.proofs.Common.{length, refl, sym, ◌∙◌, ap, subst, arith}
use Rattle.std.proofs.lemmas.Bool.{cases_eq}
use Rattle.std.proofs.lemmas.Option.{same_Some, slice_get_within, MatchOption-at_some, MatchOption-at_none}
use Rattle.save_steps.specs.declared.steps.Paper.TheVariants.{Absent, Plan, Note}
use Rattle.save_steps.specs.declared.steps.Step.TheVariants.{Make, Place, Unmake}
use Rattle.save_steps.specs.Folders.{FolderStands, Renewal, NamesAreApart, Same, IsPut, IsRenamed, IsPlacing, Did}
use Rattle.save_steps.specs.Folders.{DidInPart}
use Rattle.save_steps.specs.Points.{IsNoNew, IsElse, IsReady, IsAllOld, IsPlaced, IsAllNew}
use Rattle.save_steps.proofs.Judged.{same_or_not}

-- a plan stands, and each file but the new ones is as it was
pub record IsPlanned (cs : List Renewal) (start now : FolderStands) : Type 0 where
  pub paper : now.paper ≡ Plan
  pub others : (n : List ℕ) → IsNoNew cs n → now.file n ≡ start.file n

-- the file is as it was, and its new file stands beside it
abbrev pub IsWaiting : FolderStands → Renewal → Type 0
IsWaiting now c = (now.file c.name ≡ c.old) × (now.file c.beside ≡ Some c.new)

-- a note stands, each file is as it was or new, and each other file is as it was
pub record IsNoted (cs : List Renewal) (start now : FolderStands) : Type 0 where
  pub paper : now.paper ≡ Note
  pub each : (k : ℕ) (c : Renewal) → slice_get cs k ≡ Some c → IsWaiting now c ⊎ IsPlaced now c
  pub others : (n : List ℕ) → IsElse cs n → now.file n ≡ start.file n

-- before the note, and behind it
abbrev pub IsBefore : List Renewal → FolderStands → FolderStands → Type 0
IsBefore cs start now = IsAllOld cs start now ⊎ IsPlanned cs start now

abbrev pub IsBehind : List Renewal → FolderStands → FolderStands → Type 0
IsBehind cs start now = IsNoted cs start now ⊎ IsAllNew cs start now

-- the new files of the first n changes hold this
abbrev pub HoldBeside : List Renewal → (Renewal → Option (List ℕ)) → ℕ → FolderStands → Type 0
HoldBeside cs found n now =
    (k : ℕ) (c : Renewal) → k < n → slice_get cs k ≡ Some c → now.file c.beside ≡ found c

-- the first n changes are in place
abbrev pub ArePlaced : List Renewal → ℕ → FolderStands → Type 0
ArePlaced cs n now = (k : ℕ) (c : Renewal) → k < n → slice_get cs k ≡ Some c → IsPlaced now c

-- nothing of a draft matters
abbrev pub Blind : (FolderStands → Type 0) → Type 0
Blind P = (s t : FolderStands) → P s → t.paper ≡ s.paper → Same s.file t.file → P t

pub blind_or : (P Q : FolderStands → Type 0) → Blind P → Blind Q → Blind (λ s. P s ⊎ Q s)
blind_or P Q p q s t (inl h) e same = inl (p s t h e same)
blind_or P Q p q s t (inr h) e same = inr (q s t h e same)

-- the name is one of a change's two
abbrev Named : List Renewal → List ℕ → Type 0
Named cs n = (k : ℕ) × (c : Renewal) × (slice_get cs k ≡ Some c) × ((n ≡ c.name) ⊎ (n ≡ c.beside))

-- a name is one of a change's, or of none
which : (cs : List Renewal) (n : List ℕ) → Named cs n ⊎ IsElse cs n
which [] n = inr (λ k c at. absurd cc)
which (c ∷ cs) n = go (same_or_not n c.name) (same_or_not n c.beside) (which cs n)
  where
    go : (n ≡ c.name) ⊎ (n ≢ c.name) → (n ≡ c.beside) ⊎ (n ≢ c.beside) → Named cs n ⊎ IsElse cs n
        → Named (c ∷ cs) n ⊎ IsElse (c ∷ cs) n
    go (inl e) b rest = inl (zero, c, refl, inl e)
    go (inr a) (inl e) rest = inl (zero, c, refl, inr e)
    go (inr a) (inr b) (inl (k, d, at, h)) = inl (suc k, d, at, h)
    go (inr a) (inr b) (inr free) = inr (λ k d at. there k d at)
      where
        there : (k : ℕ) (d : Renewal) → slice_get (c ∷ cs) k ≡ Some d → (n ≢ d.name) × (n ≢ d.beside)
        there zero d at = let same : c ≡ d = same_Some c d at in
            subst (λ (x : Renewal). (n ≢ x.name) × (n ≢ x.beside)) same (a, b)
        there (suc k) d at = free k d at

module _ (cs : List Renewal) (start : FolderStands) where
  -- ---- where no file changes

  pub old_same : Blind (IsAllOld cs start)
  old_same s t p e same = record {
    paper = e ∙ p.paper;
    free = λ k c at. same c.beside ∙ p.free k c at;
    others = λ n free. same n ∙ p.others n free;
  }

  pub planned_same : Blind (IsPlanned cs start)
  planned_same s t p e same = record { paper = e ∙ p.paper; others = λ n free. same n ∙ p.others n free }

  pub noted_same : Blind (IsNoted cs start)
  noted_same s t p e same = record {
    paper = e ∙ p.paper;
    each = λ k c at. elim (p.each k c at) [
      | inl (a, b) ↦ inl (same c.name ∙ a, same c.beside ∙ b)
      | inr (a, b) ↦ inr (same c.name ∙ a, same c.beside ∙ b)
    ];
    others = λ n free. same n ∙ p.others n free;
  }

  pub new_same : Blind (IsAllNew cs start)
  new_same s t p e same = record {
    paper = e ∙ p.paper;
    each = λ k c at. (same c.name ∙ (p.each k c at).0, same c.beside ∙ (p.each k c at).1);
    others = λ n free. same n ∙ p.others n free;
  }

  -- a plan stands, and the new files of the first n changes hold this
  abbrev pub PlannedWith : (Renewal → Option (List ℕ)) → ℕ → FolderStands → Type 0
  PlannedWith found n now = IsPlanned cs start now × HoldBeside cs found n now

  -- a note stands, and the first n changes are in place
  abbrev pub NotedWith : ℕ → FolderStands → Type 0
  NotedWith n now = IsNoted cs start now × ArePlaced cs n now

  pub planned_with_same : (found : Renewal → Option (List ℕ)) (n : ℕ) → Blind (PlannedWith found n)
  planned_with_same found n s t (p, h) e same =
      (planned_same s t p e same, λ k c below at. same c.beside ∙ h k c below at)

  pub noted_with_same : (n : ℕ) → Blind (NotedWith n)
  noted_with_same n s t (p, h) e same = (
    noted_same s t p e same,
    λ k c below at. (same c.name ∙ (h k c below at).0, same c.beside ∙ (h k c below at).1),
  )

  -- ---- the plan or the note comes and goes

  pub planned_now : (s t : FolderStands) → IsAllOld cs start s → t.paper ≡ Plan → Same s.file t.file
      → IsPlanned cs start t
  planned_now s t p e same = record { paper = e; others = λ n free. same n ∙ p.others n free }

  pub gone_old : (s t : FolderStands) → PlannedWith (λ _. None) (length cs) s → t.paper ≡ Absent
      → Same s.file t.file → IsAllOld cs start t
  gone_old s t (p, h) e same = record {
    paper = e;
    free = λ k c at. same c.beside ∙ h k c (slice_get_within cs k c at) at;
    others = λ n free. same n ∙ p.others n free;
  }

  pub done_new : (s t : FolderStands) → NotedWith (length cs) s → t.paper ≡ Absent → Same s.file t.file
      → IsAllNew cs start t
  done_new s t (p, h) e same = record {
    paper = e;
    each = λ k c at. let placed = h k c (slice_get_within cs k c at) at in
        (same c.name ∙ placed.0, same c.beside ∙ placed.1);
    others = λ n free. same n ∙ p.others n free;
  }

  -- ---- new files come and go

  pub planned_put : (s t : FolderStands) (found : Option (List ℕ)) (k : ℕ) (c : Renewal) → IsPlanned cs start s
      → t.paper ≡ s.paper → slice_get cs k ≡ Some c → IsPut s.file c.beside found t.file → IsPlanned cs start t
  planned_put s t found k c p e at put_under = record {
    paper = e ∙ p.paper;
    others = λ n free. put_under.others n (free k c at) ∙ p.others n free;
  }

  pub make_part : (k : ℕ) (s t : FolderStands) → IsPlanned cs start s → DidInPart cs (Make k) s t
      → IsPlanned cs start t
  make_part k s t p (paper, inl same) = planned_same s t p paper same
  make_part k s t p (paper, inr (c, at, (part, put_under))) = planned_put s t (Some part) k c p paper at put_under

  module _ (apart : NamesAreApart cs) where
    pub noted_now : (s t : FolderStands) → IsReady cs start → PlannedWith (λ c. Some c.new) (length cs) s
        → t.paper ≡ Note → Same s.file t.file → IsNoted cs start t
    noted_now s t ready (p, h) e same = record {
      paper = e;
      each = λ k c at. inl (
        same c.name ∙ p.others c.name (λ j b there. apart.crossed k j c b at there) ∙ ready.old k c at,
        same c.beside ∙ h k c (slice_get_within cs k c at) at,
      );
      others = λ n free. same n ∙ p.others n (λ k c at. (free k c at).1);
    }

    pub old_put : (s t : FolderStands) (k : ℕ) (c : Renewal) → IsAllOld cs start s → t.paper ≡ s.paper
        → slice_get cs k ≡ Some c → IsPut s.file c.beside None t.file → IsAllOld cs start t
    old_put s t k c p e at put_under = record {
      paper = e ∙ p.paper;
      free = λ j b there. elim (cases_eq j k) [
        | inl is ↦
            let same : b ≡ c = same_Some b c (sym there ∙ ap (slice_get cs) is ∙ at) in
            subst (λ (x : Renewal). t.file x.beside ≡ None) (sym same) put_under.here
        | inr ne ↦ put_under.others b.beside (apart.besides j k b c there at ne) ∙ p.free j b there
      ];
      others = λ n free. put_under.others n (free k c at) ∙ p.others n free;
    }

    -- one more new file holds it
    one_more : (found : Renewal → Option (List ℕ)) (n : ℕ) (s t : FolderStands) (b : Renewal)
        → HoldBeside cs found n s
        → slice_get cs n ≡ Some b → IsPut s.file b.beside (found b) t.file → HoldBeside cs found (suc n) t
    one_more found n s t b h at put_under k c below here = elim (cases_eq k n) [
      | inl e ↦
          let same : c ≡ b = same_Some c b (sym here ∙ ap (slice_get cs) e ∙ at) in
          subst (λ (x : Renewal). t.file x.beside ≡ found x) (sym same) put_under.here
      | inr ne ↦ put_under.others c.beside (apart.besides k n c b here at ne) ∙ h k c (omega arith) here
    ]

    pub make_whole : (k : ℕ) (s t : FolderStands) → PlannedWith (λ c. Some c.new) k s → Did cs (Make k) s t
        → PlannedWith (λ c. Some c.new) (suc k) t
    make_whole k s t (p, h) (papers, (c, at, put_under)) =
        (planned_put s t (Some c.new) k c p papers.0 at put_under, one_more (λ c. Some c.new) k s t c h at put_under)

    pub unmake_whole : (k : ℕ) (s t : FolderStands) → PlannedWith (λ _. None) k s → Did cs (Unmake k) s t
        → PlannedWith (λ _. None) (suc k) t
    unmake_whole k s t (p, h) (papers, (c, at, put_under)) =
        (planned_put s t None k c p papers.0 at put_under, one_more (λ _. None) k s t c h at put_under)

    -- ---- a new file takes its place

    -- the new file is in place, and all else is as it was
    abbrev pub IsMoved : FolderStands → Renewal → FolderStands → Type 0
    IsMoved s c t = IsPlaced t c × ((n : List ℕ) → n ≢ c.beside → n ≢ c.name → t.file n ≡ s.file n)

    -- the new file waits, and is renamed, or it is in place already
    placing_moves : (s t : FolderStands) (c : Renewal) → IsWaiting s c ⊎ IsPlaced s c → IsPlacing s.file c t.file
        → IsMoved s c t
    placing_moves s t c (inl waiting) placing =
        let renamed : IsRenamed s.file c.beside c.name t.file = MatchOption-at_some (Same s.file t.file)
        (λ _. IsRenamed s.file c.beside c.name t.file) c.new waiting.1 placing in
        ((renamed.there ∙ waiting.1, renamed.gone), renamed.others)
    placing_moves s t c (inr placed) placing =
        let same : Same s.file t.file = MatchOption-at_none (Same s.file t.file)
        (λ _. IsRenamed s.file c.beside c.name t.file) placed.1 placing in
        ((same c.name ∙ placed.0, same c.beside ∙ placed.1), λ n not_first not_second. same n)

    module _ (s t : FolderStands) (k : ℕ) (c : Renewal) (noted : IsNoted cs start s) (at : slice_get cs k ≡ Some c)
        (moved : IsMoved s c t) where
      place_there : (j : ℕ) (b : Renewal) → slice_get cs j ≡ Some b → j ≢ k
          → (t.file b.name ≡ s.file b.name) × (t.file b.beside ≡ s.file b.beside)
      place_there j b there ne = (
        moved.1 b.name (apart.crossed j k b c there at) (apart.names j k b c there at ne),
        moved.1 b.beside (apart.besides j k b c there at ne) (λ e. apart.crossed k j c b at there (sym e)),
      )

      pub place_noted : t.paper ≡ s.paper → IsNoted cs start t
      place_noted e = record {
        paper = e ∙ noted.paper;
        each = λ j b there. elim (cases_eq j k) [
          | inl is ↦
              let same : b ≡ c = same_Some b c (sym there ∙ ap (slice_get cs) is ∙ at) in
              inr (subst (IsPlaced t) (sym same) moved.0)
          | inr ne ↦ let kept = place_there j b there ne in elim (noted.each j b there) [
            | inl (a, d) ↦ inl (kept.0 ∙ a, kept.1 ∙ d)
            | inr (a, d) ↦ inr (kept.0 ∙ a, kept.1 ∙ d)
          ]
        ];
        others = λ n free. moved.1 n (free k c at).1 (free k c at).0 ∙ noted.others n free;
      }

      pub place_more : ArePlaced cs k s → ArePlaced cs (suc k) t
      place_more h j b below there = elim (cases_eq j k) [
        | inl is ↦
            let same : b ≡ c = same_Some b c (sym there ∙ ap (slice_get cs) is ∙ at) in
            subst (IsPlaced t) (sym same) moved.0
        | inr ne ↦
            let kept = place_there j b there ne in
            let had = h j b (omega arith) there in
            (kept.0 ∙ had.0, kept.1 ∙ had.1)
      ]

    pub place_whole : (k : ℕ) (s t : FolderStands) → NotedWith k s → Did cs (Place k) s t → NotedWith (suc k) t
    place_whole k s t (p, h) (papers, (c, at, placing)) =
        let moved : IsMoved s c t = placing_moves s t c (p.each k c at) placing in
        (place_noted s t k c p at moved papers.0, place_more s t k c p at moved h)

    -- ---- two folders that are all old, or all new, are the same

    pub old_fixed : (s t : FolderStands) → IsAllOld cs start s → IsAllOld cs start t
        → (t.paper ≡ s.paper) × Same s.file t.file
    old_fixed s t p q = (q.paper ∙ sym p.paper, λ n. at_name n (which cs n))
      where
        at_name : (n : List ℕ) → Named cs n ⊎ IsElse cs n → t.file n ≡ s.file n
        at_name n (inl (k, c, at, inl e)) =
            let free : IsNoNew cs n = λ j b there h. apart.crossed k j c b at there (sym e ∙ h) in
            q.others n free ∙ sym (p.others n free)
        at_name n (inl (k, c, at, inr e)) =
            subst (λ (x : List ℕ). t.file x ≡ s.file x) (sym e) (q.free k c at ∙ sym (p.free k c at))
        at_name n (inr free) =
            q.others n (λ k c at. (free k c at).1) ∙ sym (p.others n (λ k c at. (free k c at).1))

    pub new_fixed : (s t : FolderStands) → IsAllNew cs start s → IsAllNew cs start t
        → (t.paper ≡ s.paper) × Same s.file t.file
    new_fixed s t p q = (q.paper ∙ sym p.paper, λ n. at_name n (which cs n))
      where
        at_name : (n : List ℕ) → Named cs n ⊎ IsElse cs n → t.file n ≡ s.file n
        at_name n (inl (k, c, at, inl e)) =
            subst (λ (x : List ℕ). t.file x ≡ s.file x) (sym e) ((q.each k c at).0 ∙ sym (p.each k c at).0)
        at_name n (inl (k, c, at, inr e)) =
            subst (λ (x : List ℕ). t.file x ≡ s.file x) (sym e) ((q.each k c at).1 ∙ sym (p.each k c at).1)
        at_name n (inr free) = q.others n free ∙ sym (p.others n free)
