-- What the code's walk keeps.
use Rattle.std.proofs.Common.{◌≡◌, ℕ, zero, suc, add-one, ◌+◌, ◌-◌, ◌<◌, ◌≤◌, inl, inr, Bool, true, false, cond, ◌||◌}
use Rattle.std.proofs.Common.{eqb, List, [], ◌∷◌, ◌++◌, Option, Some, None, Result, Ok, Err, length, set, get_or, take}
use Rattle.std.proofs.Common.{drop, refl, ap, sym, ◌∙◌, subst, arith, ⊎_elim, get_or-set_same, get_or-set_other}
use Rattle.std.proofs.lemmas.Bool.{or_right, ne_eqb, eq-eqb, cases_eq}
use Rattle.std.proofs.lemmas.List.{append-nil}
use Rattle.ndx_page.specs.declared.page.Page.{Page}
use Rattle.ndx_page.specs.declared.page.PageEntry.{PageEntry}
use Rattle.key_lists.specs.Order.{Each}
use Rattle.key_lists.specs.KeyForm.{IsPairOf}
use Rattle.key_lists.proofs.Ordered.{Each-append}
use Rattle.key_lists.specs.Pairs.{Pair}
use Rattle.ndx_tree.specs.IndexFile.{Item, Listed, Between, listed, is_listed, is_barred, page_count, all_listed}
use Rattle.ndx_tree.specs.IndexFile.{leaf_pairs, Link, links}
use Rattle.ndx_tree.specs.Walk.{Seen, with_separator, is_level, visit, walk_all, followed, open_page, walk, pages_of}
use Rattle.ndx_tree.specs.Walk.{unseen}
use Rattle.std.proofs.Common.{replicate}
use Rattle.key_rows.specs.Flat.{HaveKeys}
use Rattle.ndx_tree.specs.Reads.{ShowsSeen, Marks, WalkGives, Opens, unset, separators_at}
use Rattle.std.proofs.Common.{All}
use Rattle.std.proofs.lemmas.List.Elements.{All-head, All-tail}
use Rattle.ndx_page.specs.PageLayout.{FitsKeys}
use Rattle.ndx_tree.specs.declared.fault.TreeFault.{TreeFault}
use Rattle.ndx_tree.specs.declared.fault.TreeFault.TheVariants as faults
use Rattle.ndx_tree.specs.declared.walk.Found.{Found}
use Rattle.ndx_tree.specs.declared.walk.Separator.{Separator}

-- items

pub listed_append : (a b : List Item) → listed (a ++ b) ≡ listed a ++ listed b
listed_append [] b = refl
listed_append (Listed p ∷ a) b = ap (λ (m : List Pair). p ∷ m) (listed_append a b)
listed_append (Between key ∷ a) b = listed_append a b

pub listed_all : (ps : List Pair) → listed (all_listed ps) ≡ ps
listed_all [] = refl
listed_all (p ∷ ps) = ap (λ (m : List Pair). p ∷ m) (listed_all ps)

pub marks_append : (at : ℕ) (a b : List Item) → separators_at at (a ++ b)
    ≡ separators_at at a ++ separators_at (at + length (listed a)) b
marks_append at [] b = ap (λ n. separators_at n b) (omega arith)
marks_append at (Listed p ∷ a) b =
    marks_append (suc at) a b ∙ ap (λ n. separators_at (suc at) a ++ separators_at n b) (omega arith)
marks_append at (Between key ∷ a) b =
    ap (λ (m : List Separator). record { place = at; key = record { items = key } } ∷ m) (marks_append at a b)

pub marks_all : (at : ℕ) (ps : List Pair) → separators_at at (all_listed ps) ≡ []
marks_all at [] = refl
marks_all at (p ∷ ps) = marks_all (suc at) ps

-- bits

listed_push : (k n : ℕ) (seen : List ℕ) → (k ≡ n → ⊥) → is_listed k (seen ++ n ∷ []) ≡ is_listed k seen
listed_push k n [] d = rw (ne_eqb k n d) refl
listed_push k n (m ∷ seen) d = ap (λ b. eqb k m || b) (listed_push k n seen d)

listed_last : (n : ℕ) (seen : List ℕ) → is_listed n (seen ++ n ∷ []) ≡ true
listed_last n [] = rw (eq-eqb n n refl) refl
listed_last n (m ∷ seen) = or_right _ _ (listed_last n seen)

pub marks_set : (count : ℕ) (bits : List Bool) (n : ℕ) (reached : List ℕ) → n < length bits → Marks count bits reached
    → Marks count (set bits n true) (reached ++ n ∷ [])
marks_set count bits n reached l h k d p =
    ⊎_elim
    (λ e. ap (λ i. get_or (set bits n true) i d) e ∙ get_or-set_same bits n true d l ∙ sym (listed_last n reached)
    ∙ ap (λ i. is_listed i (reached ++ n ∷ [])) (sym e))
    (λ e. get_or-set_other bits n k true d e ∙ h k d p ∙ sym (listed_push k n reached e))
    (cases_eq k n)

pub unset_set : (bits : List Bool) (n : ℕ) → n < length bits → ((d : Bool) → get_or bits n d ≡ false)
    → unset (set bits n true) + 1 ≡ unset bits
unset_set [] n l e = absurd (omega arith)
unset_set (b ∷ bits) zero l e = let f : b ≡ false = e true in rw f (omega arith)
unset_set (true ∷ bits) (suc n) l e = unset_set bits n (omega arith) e
unset_set (false ∷ bits) (suc n) l e = omega (arith, unset_set bits n (omega arith) e)

-- what is shown

-- a page was reached
pub shows_reached : (k count : ℕ) (old new : Found) (s : Seen) (n : ℕ) → ShowsSeen k count old s
    → n < length old.reached.items → new.reached.items ≡ set old.reached.items n true → new.level ≡ old.level
    → new.entries.items ≡ old.entries.items → new.separators.items ≡ old.separators.items
    → ShowsSeen k count new (record { reached = s.reached ++ n ∷ []; items = s.items; level = s.level })
shows_reached k count old new s n h within bits level entries separators = record {
  marked = subst (λ (m : List Bool). Marks count m (s.reached ++ n ∷ [])) (sym bits)
      (marks_set count old.reached.items n s.reached within h.marked);
  level = level ∙ h.level;
  entries = entries ∙ h.entries;
  separators = separators ∙ h.separators;
  fits = subst (Each (IsPairOf k)) (sym entries) h.fits;
}

-- a leaf's pairs were met
pub shows_leaf : (k count : ℕ) (old new : Found) (s : Seen) (d : ℕ) (es : List PageEntry) → ShowsSeen k count old s
    → new.reached.items ≡ old.reached.items → new.level ≡ Some d → new.entries.items
    ≡ old.entries.items ++ leaf_pairs es → new.separators.items ≡ old.separators.items
    → Each (IsPairOf k) new.entries.items
    → ShowsSeen k count new
    (record { reached = s.reached; items = s.items ++ all_listed (leaf_pairs es); level = Some d })
shows_leaf k count old new s d es h bits level entries separators fits = record {
  marked = subst (λ (m : List Bool). Marks count m s.reached) (sym bits) h.marked;
  level = level;
  entries = entries ∙ ap (λ (m : List Pair). m ++ leaf_pairs es) h.entries
      ∙ ap (λ (m : List Pair). listed s.items ++ m) (sym (listed_all (leaf_pairs es)))
      ∙ sym (listed_append s.items (all_listed (leaf_pairs es)));
  separators = separators ∙ h.separators ∙ sym
      (marks_append 0 s.items (all_listed (leaf_pairs es)) ∙ ap (λ (m : List Separator). separators_at 0 s.items ++ m)
      (marks_all (0 + length (listed s.items)) (leaf_pairs es)) ∙ append-nil (separators_at 0 s.items));
  fits = fits;
}

-- a separator was met
pub shows_separator : (k count : ℕ) (old new : Found) (s : Seen) (key : List ℕ) → ShowsSeen k count old s
    → new.reached.items ≡ old.reached.items → new.level ≡ old.level → new.entries.items ≡ old.entries.items
    → new.separators.items ≡ old.separators.items
    ++ (let x : Separator = record { place = length old.entries.items; key = record { items = key } } in x) ∷ []
    → ShowsSeen k count new (with_separator (Some key) s)
shows_separator k count old new s key h bits level entries separators = record {
  marked = subst (λ (m : List Bool). Marks count m s.reached) (sym bits) h.marked;
  level = level ∙ h.level;
  entries = entries ∙ h.entries ∙ sym (listed_append s.items (Between key ∷ []) ∙ append-nil (listed s.items));
  separators = separators ∙ ap
      (λ (m : List Separator). m
      ++ (let x : Separator = record { place = length old.entries.items; key = record { items = key } } in x) ∷ [])
      h.separators ∙ ap
      (λ n. separators_at 0 s.items ++ (let x : Separator = record { place = n; key = record { items = key } } in x)
      ∷ []) (ap (λ (m : List Pair). length m) h.entries ∙ omega arith)
      ∙ sym (marks_append 0 s.items (Between key ∷ []));
  fits = subst (Each (IsPairOf k)) (sym entries) h.fits;
}

-- the pairs of one entry more
pub leaf_pairs_more : (es : List PageEntry) (i : ℕ) (e : PageEntry) → i < length es → e ≡ get_or es i e
    → leaf_pairs (take (i + 1) es) ≡ leaf_pairs (take i es) ++ (e.key.items, e.number) ∷ []
leaf_pairs_more es i e l g = ap (λ n. leaf_pairs (take n es)) (add-one i) ∙ more es i l g
  where
    more : (es : List PageEntry) (i : ℕ) → i < length es → e ≡ get_or es i e
        → leaf_pairs (take (suc i) es) ≡ leaf_pairs (take i es) ++ (e.key.items, e.number) ∷ []
    more [] i l g = absurd (omega arith)
    more (x ∷ es) zero l g = ap (λ (v : PageEntry). (v.key.items, v.number) ∷ []) (sym g)
    more (x ∷ es) (suc i) l g = ap (λ (m : List Pair). (x.key.items, x.number) ∷ m) (more es i (omega arith) g)

-- the leaf stood where it may, or not
pub leaf_given : (k count d : ℕ) (page : Page) (f : ℕ → Seen → Result Seen TreeFault) (old new : Found) (s : Seen)
    → is_level d old.level ≡ true → ShowsSeen k count old s → new.reached.items ≡ old.reached.items → new.level ≡ Some d
    → new.entries.items ≡ old.entries.items ++ leaf_pairs page.entries.items
    → new.separators.items ≡ old.separators.items → Each (IsPairOf k) (leaf_pairs page.entries.items)
    → WalkGives k count (Ok tt) new (visit f d page 0 s)
leaf_given k count d page f old new s e h bits level entries separators fits = (
  record { reached = s.reached; items = s.items ++ all_listed (leaf_pairs page.entries.items); level = Some d },
  ap (λ b. cond b
      (Ok (let t : Seen = record {
        reached = s.reached;
        items = s.items ++ all_listed (leaf_pairs page.entries.items);
        level = Some d;
      } in t)) (Err faults.Depth)) (sym (ap (is_level d) h.level) ∙ e),
  shows_leaf k count old new s d page.entries.items h bits level entries separators
      (subst (Each (IsPairOf k)) (sym entries)
      (Each-append (IsPairOf k) old.entries.items (leaf_pairs page.entries.items) h.fits fits)),
)

-- ---- a page of the walk

each_from : (P : PageEntry → Type 0) (Q : Pair → Type 0) → ((e : PageEntry) → P e → Q (e.key.items, e.number))
    → (es : List PageEntry) → All P es → Each Q (leaf_pairs es)
each_from P Q h [] a = tt
each_from P Q h (e ∷ es) a = (h e (All-head P e es a), each_from P Q h es (All-tail P e es a))

-- the pairs of a leaf have the form of the file's keys
pub leaf_fits : (k : ℕ) (page : Page) → FitsKeys k page → page.last ≡ 0
    → Each (IsPairOf k) (leaf_pairs page.entries.items)
leaf_fits k page fits last =
    ⊎_elim
    (λ leaf. each_from (λ e. (length e.key.items ≡ k) × ((e.child ≡ 0) × (0 < e.number))) (IsPairOf k)
    (λ e p. (p.0, omega (arith, p.1.1))) page.entries.items (λ j d l. (fits.keys j d l, leaf.0 j d l)))
    (λ inner. absurd (omega (arith, inner.1)))
    fits.kind

-- and so have the keys of any page
pub leaf_keys : (k : ℕ) (page : Page) → FitsKeys k page → HaveKeys k (leaf_pairs page.entries.items)
leaf_keys k page fits =
    each_from (λ e. length e.key.items ≡ k) (λ p. length p.0 ≡ k) (λ e p. p) page.entries.items fits.keys

pub leaf_key : (k : ℕ) (es : List PageEntry) (i : ℕ) (e : PageEntry) → HaveKeys k (leaf_pairs es) → i < length es
    → e ≡ get_or es i e → length e.key.items ≡ k
leaf_key k [] i e a l g = absurd (omega arith)
leaf_key k (x ∷ es) zero e a l g = ap (λ (v : PageEntry). length v.key.items) g ∙ a.0
leaf_key k (x ∷ es) (suc i) e a l g = leaf_key k es i e a.1 (omega arith) g

pub leaf_front : (k : ℕ) (es : List PageEntry) (i : ℕ) → HaveKeys k (leaf_pairs es)
    → HaveKeys k (leaf_pairs (take i es))
leaf_front k es zero a = tt
leaf_front k [] (suc i) a = tt
leaf_front k (x ∷ es) (suc i) a = (a.0, leaf_front k es i a.1)

-- what could not be opened
pub walk_refused : (k : ℕ) (bytes : List ℕ) (left n : ℕ) (s : Seen) (fault : TreeFault)
    → Opens k bytes n s.reached (Err fault) → walk (pages_of k bytes) (page_count bytes) left n s ≡ Err fault
walk_refused k bytes zero n s fault (inl h) = ap
    (λ b. cond b (Err faults.Reach) (open_page (pages_of k bytes n) (λ _. Err faults.Depth))) h.0
    ∙ ap (λ f. let r : Result Seen TreeFault = Err f in r) (sym h.1)
walk_refused k bytes zero n s fault (inr h) = ap
    (λ b. cond b (Err faults.Reach) (open_page (pages_of k bytes n) (λ _. Err faults.Depth))) h.0
    ∙ ap (λ (o : Option Page). open_page o (λ _. Err faults.Depth)) h.1
    ∙ ap (λ f. let r : Result Seen TreeFault = Err f in r) (sym h.2)
walk_refused k bytes (suc d) n s fault (inl h) = ap
    (λ b. cond b (Err faults.Reach) (open_page (pages_of k bytes n)
    (λ page. visit (walk (pages_of k bytes) (page_count bytes) d) d page page.last
    (record { reached = s.reached ++ n ∷ []; items = s.items; level = s.level })))) h.0
    ∙ ap (λ f. let r : Result Seen TreeFault = Err f in r) (sym h.1)
walk_refused k bytes (suc d) n s fault (inr h) = ap
    (λ b. cond b (Err faults.Reach) (open_page (pages_of k bytes n)
    (λ page. visit (walk (pages_of k bytes) (page_count bytes) d) d page page.last
    (record { reached = s.reached ++ n ∷ []; items = s.items; level = s.level })))) h.0
    ∙ ap (λ (o : Option Page). open_page o
    (λ page. visit (walk (pages_of k bytes) (page_count bytes) d) d page page.last
    (record { reached = s.reached ++ n ∷ []; items = s.items; level = s.level }))) h.1
    ∙ ap (λ f. let r : Result Seen TreeFault = Err f in r) (sym h.2)

-- a page that was opened
pub walk_opened : (k : ℕ) (bytes : List ℕ) (left n : ℕ) (s : Seen) (page : Page) → 0 < left
    → Opens k bytes n s.reached (Ok page) → walk (pages_of k bytes) (page_count bytes) left n s
    ≡ visit (walk (pages_of k bytes) (page_count bytes) (left - 1)) (left - 1) page page.last
    (record { reached = s.reached ++ n ∷ []; items = s.items; level = s.level })
walk_opened k bytes zero n s page p h = absurd (omega arith)
walk_opened k bytes (suc d) n s page p h =
    let e : suc d - 1 ≡ d = omega arith in
    let go : ℕ → Page → Result Seen TreeFault = λ d page. visit (walk (pages_of k bytes) (page_count bytes) d) d page
    page.last (record { reached = s.reached ++ n ∷ []; items = s.items; level = s.level }) in
    ap (λ b. cond b (Err faults.Reach) (open_page (pages_of k bytes n) (go d))) h.0
    ∙ ap (λ (o : Option Page). open_page o (go d)) h.1 ∙ ap (λ n. go n page) (sym e)

pub visit_inner : (f : ℕ → Seen → Result Seen TreeFault) (d : ℕ) (page : Page) (last : ℕ) (s : Seen) → (last ≡ 0 → ⊥)
    → visit f d page last s ≡ walk_all f (links page.entries.items last) s
visit_inner f d page zero s n = absurd (n refl)
visit_inner f d page (suc last) s n = refl

pub links_step : (es : List PageEntry) (i last : ℕ) (e : PageEntry) → i < length es → e ≡ get_or es i e
    → links (drop i es) last ≡ (let c : Link = (e.child, Some e.key.items) in c) ∷ links (drop (i + 1) es) last
links_step es i last e l g = step es i l g ∙ ap
    (λ n. (let c : Link = (e.child, Some e.key.items) in c) ∷ links (drop n es) last) (sym (add-one i))
  where
    step : (es : List PageEntry) (i : ℕ) → i < length es → e ≡ get_or es i e
        → links (drop i es) last ≡ (let c : Link = (e.child, Some e.key.items) in c) ∷ links (drop (suc i) es) last
    step [] i l g = absurd (omega arith)
    step (x ∷ es) zero l g =
        ap (λ (v : PageEntry). (let c : Link = (v.child, Some v.key.items) in c) ∷ links es last) (sym g)
    step (x ∷ es) (suc i) l g = step es i (omega arith) g

pub links_end : (es : List PageEntry) (i last : ℕ) → length es ≤ i
    → links (drop i es) last ≡ (let c : Link = (last, None) in c) ∷ []
links_end [] zero last l = refl
links_end [] (suc i) last l = refl
links_end (x ∷ es) zero last l = absurd (omega arith)
links_end (x ∷ es) (suc i) last l = links_end es i last (omega arith)

with_none : (s : Seen) → with_separator None s ≡ s
with_none s = ap (λ (m : List Item). let u : Seen = record { reached = s.reached; items = m; level = s.level } in u)
    (append-nil s.items)

-- the last child's walk is the rest of the page's
pub gives_last : (k count : ℕ) (result : Result (Unit {0}) TreeFault) (found : Found)
    (f : ℕ → Seen → Result Seen TreeFault) (last : ℕ) (t : Seen) → WalkGives k count result found (f last t)
    → WalkGives k count result found (walk_all f ((let c : Link = (last, None) in c) ∷ []) t)
gives_last k count (Ok u) found f last t g = (
  g.0,
  ap (λ (o : Result Seen TreeFault). followed o (λ v. Ok (with_separator None v))) g.1
      ∙ ap (λ (v : Seen). let r : Result Seen TreeFault = Ok v in r) (with_none g.0),
  g.2,
)
gives_last k count (Err fault) found f last t g = ⊎_elim (λ m. inl m)
    (λ e. inr (ap (λ (o : Result Seen TreeFault). followed o (λ v. Ok (with_separator None v))) e)) g

-- the walk so far, and what is left of it
pub record IsLeft (k count : ℕ) (found : Found) (whole : Result Seen TreeFault) (f : ℕ → Seen → Result Seen TreeFault)
    (cs : List Link) : Type 0 where
  pub now : Seen
  pub shown : ShowsSeen k count found now
  pub rest : whole ≡ walk_all f cs now

-- a child was walked, and its separator taken
pub left_step : (k count : ℕ) (found mid new : Found) (whole : Result Seen TreeFault)
    (f : ℕ → Seen → Result Seen TreeFault) (es : List PageEntry) (i last : ℕ) (e : PageEntry) → i < length es
    → e ≡ get_or es i e → (l : IsLeft k count found whole f (links (drop i es) last))
    → WalkGives k count (Ok tt) mid (f e.child l.now)
    → ((t : Seen) → ShowsSeen k count mid t → ShowsSeen k count new (with_separator (Some e.key.items) t))
    → IsLeft k count new whole f (links (drop (i + 1) es) last)
left_step k count found mid new whole f es i last e within is l g separator = record {
  now = with_separator (Some e.key.items) g.0;
  shown = separator g.0 g.2;
  rest = l.rest ∙ ap (λ (cs : List Link). walk_all f cs l.now) (links_step es i last e within is)
      ∙ ap (λ (o : Result Seen TreeFault). followed o
      (λ u. walk_all f (links (drop (i + 1) es) last) (with_separator (Some e.key.items) u))) g.1;
}

-- a child's walk met a fault
pub left_fault : (k count : ℕ) (found mid new : Found) (whole : Result Seen TreeFault)
    (f : ℕ → Seen → Result Seen TreeFault) (es : List PageEntry) (i last : ℕ) (e : PageEntry) (fault : TreeFault)
    → i < length es → e ≡ get_or es i e → (l : IsLeft k count found whole f (links (drop i es) last))
    → WalkGives k count (Err fault) mid (f e.child l.now) → WalkGives k count (Err fault) new whole
left_fault k count found mid new whole f es i last e fault within is l g =
    ⊎_elim (λ m. inl m)
    (λ r. inr (l.rest ∙ ap (λ (cs : List Link). walk_all f cs l.now) (links_step es i last e within is)
    ∙ ap (λ (o : Result Seen TreeFault). followed o
    (λ u. walk_all f (links (drop (i + 1) es) last) (with_separator (Some e.key.items) u))) r)) g

-- ---- before anything was found

get_none : (count n : ℕ) (d : Bool) → n < count → get_or (replicate count false) n d ≡ false
get_none zero n d l = absurd (omega arith)
get_none (suc count) zero d l = refl
get_none (suc count) (suc n) d l = get_none count n d (omega arith)

pub unset_none : (count : ℕ) → unset (replicate count false) ≡ count
unset_none zero = refl
unset_none (suc count) = ap suc (unset_none count)

pub shows_none : (k count : ℕ) (found : Found) → found.reached.items ≡ replicate count false → found.level ≡ None
    → found.entries.items ≡ [] → found.separators.items ≡ [] → ShowsSeen k count found unseen
shows_none k count found bits level entries separators = record {
  marked = λ n d l. ap (λ (m : List Bool). get_or m n d) bits ∙ get_none count n d l;
  level = level;
  entries = entries;
  separators = separators;
  fits = subst (Each (IsPairOf k)) (sym entries) tt;
}

-- ---- which faults a walk tells

abbrev pub IsWalkFault : TreeFault → Type 0
IsWalkFault faults.Head = ⊥
IsWalkFault faults.Reach = Unit {0}
IsWalkFault faults.Page = Unit {0}
IsWalkFault faults.Depth = Unit {0}
IsWalkFault faults.Order = ⊥
IsWalkFault faults.Memory = ⊥

told : (f g : TreeFault) → IsWalkFault f → (let r : Result Seen TreeFault = Err f in r) ≡ Err g → IsWalkFault g
told f g h e = let same : f ≡ g = cc in subst IsWalkFault same h

pub ok_no : (s : Seen) (g : TreeFault) → (let r : Result Seen TreeFault = Ok s in r) ≡ Err g → ⊥
ok_no s g e = cc

all_told : (f : ℕ → Seen → Result Seen TreeFault) → ((n : ℕ) (s : Seen) (g : TreeFault) → f n s ≡ Err g → IsWalkFault g)
    → (cs : List Link) (s : Seen) (g : TreeFault) → walk_all f cs s ≡ Err g → IsWalkFault g
all_told f h [] s g e = absurd (ok_no s g e)
all_told f h (c ∷ cs) s g e =
    (elim (f c.0 s) as (λ r. f c.0 s ≡ r → followed r (λ t. walk_all f cs (with_separator c.1 t)) ≡ Err g
    → IsWalkFault g) [
      | Ok t ↦ λ p q. all_told f h cs (with_separator c.1 t) g q
      | Err x ↦ λ p q. told x g (h c.0 s x p) q
    ]) refl e

visit_told : (f : ℕ → Seen → Result Seen TreeFault)
    → ((n : ℕ) (s : Seen) (g : TreeFault) → f n s ≡ Err g → IsWalkFault g)
    → (d : ℕ) (page : Page) (last : ℕ) (s : Seen) (g : TreeFault) → visit f d page last s ≡ Err g → IsWalkFault g
visit_told f h d page zero s g e =
    (elim (is_level d s.level) as
    (λ b. cond b (Ok
    (let t : Seen = record {
      reached = s.reached;
      items = s.items ++ all_listed (leaf_pairs page.entries.items);
      level = Some d;
    } in t)) (Err faults.Depth) ≡ Err g → IsWalkFault g) [
      | true ↦ λ q. absurd (ok_no _ g q)
      | false ↦ λ q. told faults.Depth g tt q
    ]) e
visit_told f h d page (suc last) s g e = all_told f h _ s g e

pub walk_told : (file : ℕ → Option Page) (count d n : ℕ) (s : Seen) (g : TreeFault) → walk file count d n s ≡ Err g
    → IsWalkFault g
walk_told file count zero n s g e =
    (elim (is_barred count n s.reached) as
    (λ b. cond b (Err faults.Reach) (open_page (file n) (λ _. Err faults.Depth)) ≡ Err g → IsWalkFault g) [
      | true ↦ λ q. told faults.Reach g tt q
      | false ↦ (elim (file n) as (λ o. open_page o (λ _. Err faults.Depth) ≡ Err g
          → IsWalkFault g) [ None ↦ λ q. told faults.Page g tt q | Some page ↦ λ q. told faults.Depth g tt q ])
    ]) e
walk_told file count (suc d) n s g e =
    (elim (is_barred count n s.reached) as
    (λ b. cond b (Err faults.Reach)
    (open_page (file n) (λ page. visit (walk file count d) d page page.last
    (record { reached = s.reached ++ n ∷ []; items = s.items; level = s.level }))) ≡ Err g → IsWalkFault g) [
      | true ↦ λ q. told faults.Reach g tt q
      | false ↦ (elim (file n) as
          (λ o. open_page o (λ page. visit (walk file count d) d page page.last
          (record { reached = s.reached ++ n ∷ []; items = s.items; level = s.level })) ≡ Err g → IsWalkFault g) [
            | None ↦ λ q. told faults.Page g tt q
            | Some page ↦ λ q. visit_told (walk file count d) (λ n s g. walk_told file count d n s g) d page page.last _
                g q
          ])
    ]) e

pub leaf_pairs_end : (es : List PageEntry) (e : PageEntry) → leaf_pairs (es ++ e ∷ [])
    ≡ leaf_pairs es ++ (e.key.items, e.number) ∷ []
leaf_pairs_end [] e = refl
leaf_pairs_end (x ∷ es) e = ap (λ (m : List Pair). (x.key.items, x.number) ∷ m) (leaf_pairs_end es e)
