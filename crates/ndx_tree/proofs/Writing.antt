-- Pages as they are written, children first.
use Rattle.std.proofs.Common.{◌≡◌, ℕ, zero, suc, ◌+◌, ◌*◌, ◌/◌, ◌<◌, ◌≤◌, ◌⊎◌, inl, inr, ⊎_elim, Bool, true, false, eqb}
use Rattle.std.proofs.Common.{Option, Some, None, List, [], ◌∷◌, ◌++◌, length, take, drop, refl, ap, sym, ◌∙◌, subst}
use Rattle.std.proofs.Common.{arith, append_assoc, length-append}
use Rattle.std.proofs.lemmas.Bool.{eq-eqb, ne_eqb, lt-ltb, false≢true, false_from_ne_true}
use Rattle.std.proofs.lemmas.List.{append-nil, take_at, drop_at}
use Rattle.ndx_page.specs.declared.page.PageEntry.{PageEntry}
use Rattle.ndx_page.specs.declared.page.Page.{Page}
use Rattle.ndx_page.specs.PageLayout.{IsPage as IsFilePage, FitsKeys}
use Rattle.ndx_page.specs.Layout.{most_entries}
use Rattle.std.proofs.Common.{get_or, All}
use Rattle.key_lists.specs.KeyForm.{IsPairOf}
use Rattle.ndx_tree.proofs.Cut.{child_at}
use Rattle.ndx_tree.proofs.Mend.{cut_at}
use Rattle.ndx_tree.proofs.Divide.{least_pairs_two}
use Rattle.ndx_tree.proofs.Between.{take_next}
use Rattle.key_lists.specs.Order.{Each}
use Rattle.key_lists.specs.Pairs.{Pair, is_before, key_before}
use Rattle.key_lists.specs.Rising.{IsRising, last_of}
use Rattle.ndx_tree.specs.Pages.{PageView, pairs_of_pages, view_of, IsFramedPage, IsChild}
use Rattle.ndx_tree.specs.IndexFile.{Item, Listed, Between, listed, Link, links, separator_items, leaf_pairs}
use Rattle.ndx_tree.specs.IndexFile.{all_listed, AreBelow, IsNode, IsBelow, AreFresh, is_listed, page_at, AreBounds}
use Rattle.ndx_tree.specs.Writes.{AreLast, AreGiven, AreOthers, IsWritten, AreWritten, entry_links, IsAppended, IsLink}
use Rattle.ndx_tree.specs.IndexText.{IsOwnPage}
use Rattle.key_lists.proofs.Ordered.{Each-map, Each-append, Each-append_left, Each-append_right, Each-at}
use Rattle.key_lists.proofs.KeyOrder.{orders_pairs}
use Rattle.key_lists.proofs.Starts.{not_below}
use Rattle.key_lists.proofs.PairOrder.{is_before_strict}
use Rattle.key_lists.proofs.Rises.{rising_after_last, rising_front, after_last, last_back}
use Rattle.ndx_tree.proofs.Reading.{listed_append, listed_all}
use Rattle.ndx_tree.proofs.Exact.{fresh_append}

-- ---- separators

AreLast-append : (before : List Pair) (a b : List Item) → AreLast before a → AreLast (before ++ listed a) b
    → AreLast before (a ++ b)
AreLast-append before [] b p q = subst (λ (m : List Pair). AreLast m b) (append-nil before) q
AreLast-append before (Listed x ∷ a) b p q = AreLast-append (before ++ x ∷ []) a b p
    (subst (λ (m : List Pair). AreLast m b) (sym (append_assoc before (x ∷ []) (listed a))) q)
AreLast-append before (Between key ∷ a) b p q = (p.0, AreLast-append before a b p.1 q)

AreLast-all : (before ps : List Pair) → AreLast before (all_listed ps)
AreLast-all before [] = tt
AreLast-all before (p ∷ ps) = AreLast-all (before ++ p ∷ []) ps

not_itself : (p : Pair) → key_before p.0 p.0 ≡ false
not_itself p = false_from_ne_true (key_before p.0 p.0)
    (λ g. false≢true (sym (is_before_strict.irrefl p) ∙ orders_pairs.by_key p.0 p.0 p.1 p.1 g))

left_of_last : (l : List Pair) (s : Pair) → IsRising l → last_of l ≡ Some s → Each (λ p. key_before s.0 p.0 ≡ false) l
left_of_last [] s r e = tt
left_of_last (y ∷ []) s r e = let q : s ≡ y = cc in (ap (λ (p : Pair). key_before p.0 y.0) q ∙ not_itself y, tt)
left_of_last (y ∷ z ∷ l) s r e = (not_below y s (after_last y s (z ∷ l) e r.0), left_of_last (z ∷ l) s r.1 e)

pub last_bounds : (before : List Pair) (items : List Item) → IsRising (before ++ listed items) → AreLast before items
    → AreBounds before items
last_bounds before [] r a = tt
last_bounds before (Listed p ∷ items) r a =
    last_bounds (before ++ p ∷ []) items (subst IsRising (sym (append_assoc before (p ∷ []) (listed items))) r) a
last_bounds before (Between key ∷ items) r a =
    let s = a.0.0 in (
      subst (λ (k : List ℕ). Each (λ p. key_before k p.0 ≡ false) before) a.0.2
          (left_of_last before s (rising_front before (listed items) r) a.0.1),
      subst (λ (k : List ℕ). Each (λ p. key_before p.0 k ≡ false) (listed items)) a.0.2
          (Each-map (λ p. is_before s p ≡ true) (λ p. key_before p.0 s.0 ≡ false) (λ p e. not_below s p e)
          (listed items) (rising_after_last s before (listed items) a.0.1 r)),
      last_bounds before items r a.1,
    )

-- ---- numbers

given_up : (first n m : ℕ) (l : List ℕ) → n ≤ m → AreGiven first n l → AreGiven first m l
given_up first n m l le g =
    Each-map (λ k. (first < k) × (k ≤ n)) (λ k. (first < k) × (k ≤ m)) (λ k h. (h.0, omega (arith, h.1))) l g

given_down : (first second n : ℕ) (l : List ℕ) → first ≤ second → AreGiven second n l → AreGiven first n l
given_down first second n l le g =
    Each-map (λ k. (second < k) × (k ≤ n)) (λ k. (first < k) × (k ≤ n)) (λ k h. (omega (arith, h.0), h.1)) l g

others_front : (first mid n : ℕ) (seen : List ℕ) → mid ≤ n → AreOthers first n seen → AreOthers first mid seen
others_front first mid n seen le o = Each-map (λ k. (k ≤ first) ⊎ (n < k)) (λ k. (k ≤ first) ⊎ (mid < k))
    (λ k h. ⊎_elim (λ a. inl a) (λ b. inr (omega (arith, b))) h) seen o

others_back : (first mid n : ℕ) (seen r : List ℕ) → first ≤ mid → AreOthers first n seen → AreGiven first mid r
    → AreOthers mid n (seen ++ r)
others_back first mid n seen r le o g =
    Each-append (λ k. (k ≤ mid) ⊎ (n < k)) seen r
    (Each-map (λ k. (k ≤ first) ⊎ (n < k)) (λ k. (k ≤ mid) ⊎ (n < k))
    (λ k h. ⊎_elim (λ a. inl (omega (arith, a))) (λ b. inr b) h) seen o)
    (Each-map (λ k. (first < k) × (k ≤ mid)) (λ k. (k ≤ mid) ⊎ (n < k)) (λ k h. inl h.1) r g)

fresh_both : (first mid n : ℕ) (r1 r2 : List ℕ) → first ≤ mid → mid ≤ n → AreGiven first mid r1
    → ((count : ℕ) (seen : List ℕ) → mid < count → AreOthers first mid seen → AreFresh count seen r1)
    → ((count : ℕ) (seen : List ℕ) → n < count → AreOthers mid n seen → AreFresh count seen r2)
    → (count : ℕ) (seen : List ℕ) → n < count → AreOthers first n seen → AreFresh count seen (r1 ++ r2)
fresh_both first mid n r1 r2 le le2 g f1 f2 count seen l o =
    fresh_append count seen r1 r2 (f1 count seen (omega arith) (others_front first mid n seen le2 o))
    (f2 count (seen ++ r1) l (others_back first mid n seen r1 le o g))

not_among : (first n : ℕ) (seen : List ℕ) → first < n → AreOthers first n seen → is_listed n seen ≡ false
not_among first n [] l o = refl
not_among first n (m ∷ seen) l o =
    let other : n ≡ m → ⊥ = λ e. ⊎_elim (λ a. omega (arith, a, e)) (λ b. omega (arith, b, e)) o.0 in
    rw (ne_eqb n m other) (not_among first n seen l o.1)

-- a page with the next number, in front of what is below it
fresh_page : (first n : ℕ) (rest : List ℕ) → first ≤ n
    → ((count : ℕ) (seen : List ℕ) → n < count → AreOthers first n seen → AreFresh count seen rest)
    → (count : ℕ) (seen : List ℕ) → n + 1 < count → AreOthers first (n + 1) seen → AreFresh count seen ((n + 1) ∷ rest)
fresh_page first n rest le f count seen l o =
    let some : n + 1 ≡ 0 → ⊥ = λ e. omega (arith, e) in
    let free = not_among first (n + 1) seen (omega arith) o in (
      rw (ne_eqb (n + 1) 0 some, lt-ltb (n + 1) count l, free) refl,
      f count (seen ++ (n + 1) ∷ []) (omega arith)
          (Each-append (λ k. (k ≤ first) ⊎ (n < k)) seen ((n + 1) ∷ [])
          (others_front first n (n + 1) seen (omega arith) o) (inr (omega arith), tt)),
    )

-- ---- children side by side

AreBelow-append : (R : ℕ → List ℕ → List Item → Type 0) (a b : List Link) (r1 r2 : List ℕ) (i1 i2 : List Item)
    → AreBelow R a r1 i1 → AreBelow R b r2 i2 → AreBelow R (a ++ b) (r1 ++ r2) (i1 ++ i2)
AreBelow-append R [] b r1 r2 i1 i2 p q =
    subst (λ (m : List ℕ). AreBelow R b (m ++ r2) (i1 ++ i2)) (sym p.0)
    (subst (λ (m : List Item). AreBelow R b r2 (m ++ i2)) (sym p.1) q)
AreBelow-append R (c ∷ a) b r1 r2 i1 i2 p q = (
  p.0,
  p.1 ++ r2,
  p.2,
  p.3 ++ i2,
  ap (λ (m : List ℕ). m ++ r2) p.4 ∙ append_assoc p.0 p.1 r2,
  ap (λ (m : List Item). m ++ i2) p.5 ∙ append_assoc p.2 (separator_items c.1 ++ p.3) i2
      ∙ ap (λ (m : List Item). p.2 ++ m) (append_assoc (separator_items c.1) p.3 i2),
  p.6,
  AreBelow-append R a b p.1 r2 p.3 i2 p.7 q,
)

one_below : (R : ℕ → List ℕ → List Item → Type 0) (c : Link) (r : List ℕ) (i : List Item) → R c.0 r i
    → AreBelow R (c ∷ []) r (i ++ separator_items c.1)
one_below R c r i h = (
  r,
  [],
  i,
  [],
  sym (append-nil r),
  ap (λ (m : List Item). i ++ m)
      (sym (append-nil (separator_items c.1))),
  h,
  (refl, refl),
)

links_are : (es : List PageEntry) (last : ℕ) → links es last ≡ entry_links es ++ (let c : Link = (last, None) in c) ∷ []
links_are [] last = refl
links_are (e ∷ es) last =
    ap (λ (m : List Link). (let c : Link = (e.child, Some e.key.items) in c) ∷ m) (links_are es last)

entry_links_more : (es : List PageEntry) (e : PageEntry) → entry_links (es ++ e ∷ [])
    ≡ entry_links es ++ (let c : Link = (e.child, Some e.key.items) in c) ∷ []
entry_links_more [] e = refl
entry_links_more (x ∷ es) e =
    ap (λ (m : List Link). (let c : Link = (x.child, Some x.key.items) in c) ∷ m) (entry_links_more es e)

joined_more : (cs : List PageView) (c : PageView) → pairs_of_pages (cs ++ c ∷ []) ≡ pairs_of_pages cs ++ c.pairs
joined_more [] c = append-nil c.pairs
joined_more (x ∷ cs) c =
    ap (λ (m : List Pair). x.pairs ++ m) (joined_more cs c) ∙ sym (append_assoc x.pairs (pairs_of_pages cs) c.pairs)

-- more was written behind
grown : (front old added new rest : List ℕ) → new ≡ old ++ added → front ++ (old ++ (added ++ rest))
    ≡ front ++ (new ++ rest)
grown front old added new rest e =
    ap (λ (m : List ℕ). front ++ m) (sym (append_assoc old added rest) ∙ ap (λ (m : List ℕ). m ++ rest) (sym e))

pub none_written : (k h first : ℕ) (body : List ℕ) → AreWritten k h first first body [] []
none_written k h first body = record {
  reached = [];
  items = [];
  below = λ front rest level e. (refl, refl);
  given = tt;
  all = omega arith;
  fresh = λ count seen l o. tt;
  pairs = refl;
  last = λ before. tt;
  entries = tt;
}

-- one child more, and the entry that names it
pub child_written : (k h first mid n : ℕ) (old added new : List ℕ) (es : List PageEntry) (cs : List PageView)
    (c : PageView) (e : PageEntry) (s : Pair) → AreWritten k h first mid old es cs → IsWritten k mid n new c
    → new ≡ old ++ added → c.height ≡ h → first ≤ mid → mid < n → e.child ≡ n → length e.key.items ≡ k
    → last_of c.pairs ≡ Some s → s.0 ≡ e.key.items → e.number ≡ 0 → AreWritten k h first n new (es ++ e ∷ [])
    (cs ++ c ∷ [])
child_written k h first mid n old added new es cs c e s w v grows height le less child key last same plain = record {
  reached = w.reached ++ v.reached;
  items = w.items ++ (v.items ++ Between e.key.items ∷ []);
  below = λ front rest level whole.
      let R : ℕ → List ℕ → List Item → Type 0 = IsBelow k (front ++ (new ++ rest)) level (level + h) in
      let others : AreBelow R (entry_links es) w.reached w.items = subst
      (λ (m : List ℕ). AreBelow (IsBelow k m level (level + h)) (entry_links es) w.reached w.items)
      (grown front old added new rest grows) (w.below front (added ++ rest) level whole) in
      let one : R e.child v.reached v.items = subst (λ m. R m v.reached v.items) (sym child)
      (subst (λ x. IsBelow k (front ++ (new ++ rest)) level (level + x) n v.reached v.items) height
      (v.below front rest level whole)) in
      subst (λ (m : List Link). AreBelow R m (w.reached ++ v.reached)
      (w.items ++ (v.items ++ Between e.key.items ∷ []))) (sym (entry_links_more es e))
      (AreBelow-append R (entry_links es) _ w.reached v.reached w.items _ others
      (one_below R (e.child, Some e.key.items) v.reached v.items one));
  given = Each-append (λ x. (first < x) × (x ≤ n)) w.reached v.reached
      (given_up first mid n w.reached (omega arith) w.given) (given_down first mid n v.reached le v.given);
  all = omega (arith, w.all, v.all, length-append w.reached v.reached);
  fresh = fresh_both first mid n w.reached v.reached le (omega arith) w.given w.fresh v.fresh;
  pairs = listed_append w.items (v.items ++ Between e.key.items ∷ [])
      ∙ ap (λ (m : List Pair). listed w.items ++ m)
      (listed_append v.items (Between e.key.items ∷ []) ∙ append-nil (listed v.items))
      ∙ ap (λ (m : List Pair). m ++ listed v.items) w.pairs ∙ ap (λ (m : List Pair). pairs_of_pages cs ++ m) v.pairs
      ∙ sym (joined_more cs c);
  last = λ before. AreLast-append before w.items (v.items ++ Between e.key.items ∷ []) (w.last before)
      (AreLast-append (before ++ listed w.items) v.items (Between e.key.items ∷ [])
      (v.last (before ++ listed w.items)) (
        (
          s,
          subst (λ (m : List Pair). last_of ((before ++ listed w.items) ++ m) ≡ Some s) (sym v.pairs)
              (last_back s (before ++ listed w.items) c.pairs last),
          same,
        ),
        tt,
      ));
  entries = Each-append (IsLink k) es (e ∷ []) w.entries ((key, omega (arith, child, less), plain), tt);
}

-- ---- the page itself

-- a page behind so many whole pages
page_behind : (front old text rest whole : List ℕ) (n : ℕ) → length front ≡ 512 → length old ≡ n * 512
    → length text ≡ 512 → whole ≡ old ++ text → page_at (n + 1) (front ++ (whole ++ rest)) ≡ text
page_behind front old text rest whole n f o t e =
    let parts : front ++ (whole ++ rest) ≡ (front ++ old) ++ (text ++ rest) = ap (λ (m : List ℕ). front ++ (m ++ rest))
    e ∙ ap (λ (m : List ℕ). front ++ m) (append_assoc old text rest)
    ∙ sym (append_assoc front old (text ++ rest)) in
    let place : length (front ++ old) ≡ (n + 1) * 512 = omega (arith, length-append front old) in
    ap (λ (m : List ℕ). take 512 (drop ((n + 1) * 512) m)) parts ∙ ap (take 512)
    (drop_at (front ++ old) (text ++ rest) ((n + 1) * 512) place) ∙ take_at text rest 512 t

next_level : (level h v : ℕ) → v ≡ h + 1 → level + v ≡ suc (level + h)
next_level level h v e = omega (arith, e)

-- a leaf
pub leaf_written : (k first : ℕ) (old new : List ℕ) (page : Page) (v : PageView) → IsAppended k old new page
    → length old ≡ first * 512 → page.last ≡ 0 → leaf_pairs page.entries.items ≡ v.pairs → v.height ≡ 1
    → IsWritten k first (first + 1) new v
leaf_written k first old new page v a o last pairs height = record {
  reached = (first + 1) ∷ [];
  items = all_listed (leaf_pairs page.entries.items);
  below = λ front rest level f.
      subst (λ d. IsBelow k (front ++ (new ++ rest)) level d (first + 1) ((first + 1) ∷ [])
      (all_listed (leaf_pairs page.entries.items))) (sym (next_level level 0 v.height (omega (arith, height)))) (
        page,
        [],
        subst (λ (m : List ℕ). IsFilePage k m page)
            (sym (page_behind front old a.text rest new first f o a.whole a.items)) a.stands,
        refl,
        subst (λ l. IsNode (IsBelow k (front ++ (new ++ rest)) level (level + 0)) (eqb (level + 0) level) page l []
            (all_listed (leaf_pairs page.entries.items))) (sym last)
            (eq-eqb (level + 0) level (omega arith), refl, refl),
      );
  given = ((omega arith, omega arith), tt);
  all = omega arith;
  fresh = fresh_page first first [] (omega arith) (λ count seen l others. tt);
  pairs = listed_all (leaf_pairs page.entries.items) ∙ pairs;
  last = λ before. AreLast-all before (leaf_pairs page.entries.items);
}

inner_node : (R : ℕ → List ℕ → List Item → Type 0) (here : Bool) (page : Page) (last : ℕ) (r : List ℕ) (i : List Item)
    → 0 < last → AreBelow R (links page.entries.items last) r i → IsNode R here page last r i
inner_node R here page zero r i p a = absurd (omega arith)
inner_node R here page (suc last) r i p a = a

-- an inner page
pub inner_written : (k h first mid n : ℕ) (old added new whole : List ℕ) (cs : List PageView) (c v : PageView)
    (page : Page) → AreWritten k h first mid old page.entries.items cs → IsWritten k mid n new c → new ≡ old ++ added
    → c.height ≡ h → first ≤ mid → mid < n → IsAppended k new whole page → page.last ≡ n → length new ≡ n * 512
    → v.height ≡ h + 1 → v.pairs ≡ pairs_of_pages (cs ++ c ∷ []) → IsWritten k first (n + 1) whole v
inner_written k h first mid n old added new whole cs c v page w x grows height le less a last size tall pairs = record {
  reached = (n + 1) ∷ (w.reached ++ x.reached);
  items = w.items ++ x.items;
  below = λ front rest level f.
      let bytes : List ℕ = front ++ (whole ++ rest) in
      let R : ℕ → List ℕ → List Item → Type 0 = IsBelow k bytes level (level + h) in
      let new_is : front ++ (new ++ (a.text ++ rest)) ≡ bytes = grown front new a.text whole rest a.items in
      let others : AreBelow R (entry_links page.entries.items) w.reached w.items = subst
      (λ (m : List ℕ). AreBelow (IsBelow k m level (level + h)) (entry_links page.entries.items) w.reached w.items)
      (grown front old added new (a.text ++ rest) grows ∙ new_is)
      (w.below front (added ++ (a.text ++ rest)) level f) in
      let one : R n x.reached x.items = subst (λ (m : List ℕ). IsBelow k m level (level + h) n x.reached x.items) new_is
      (subst (λ y. IsBelow k (front ++ (new ++ (a.text ++ rest))) level (level + y) n x.reached x.items) height
      (x.below front (a.text ++ rest) level f)) in
      let all : AreBelow R (entry_links page.entries.items ++ (let l : Link = (n, None) in l) ∷ [])
      (w.reached ++ x.reached) (w.items ++ x.items) = AreBelow-append R (entry_links page.entries.items) _ w.reached
      x.reached w.items x.items others
      (subst (λ (m : List Item). AreBelow R ((let l : Link = (n, None) in l) ∷ []) x.reached m) (append-nil x.items)
      (one_below R (n, None) x.reached x.items one)) in
      let node : IsNode R (eqb (level + h) level) page n (w.reached ++ x.reached) (w.items ++ x.items) = inner_node R
      (eqb (level + h) level) page n _ _ (omega arith)
      (subst (λ (m : List Link). AreBelow R m (w.reached ++ x.reached) (w.items ++ x.items))
      (sym (links_are page.entries.items n)) all) in
      subst (λ d. IsBelow k bytes level d (n + 1) ((n + 1) ∷ (w.reached ++ x.reached)) (w.items ++ x.items))
      (sym (next_level level h v.height tall)) (
        page,
        w.reached ++ x.reached,
        subst (λ (m : List ℕ). IsFilePage k m page)
            (sym (page_behind front new a.text rest whole n f size a.whole a.items)) a.stands,
        refl,
        subst (λ l. IsNode R (eqb (level + h) level) page l (w.reached ++ x.reached) (w.items ++ x.items)) (sym last)
            node,
      );
  given = (
    (omega arith, omega arith),
    Each-append (λ y. (first < y) × (y ≤ n + 1)) w.reached x.reached
        (given_up first mid (n + 1) w.reached (omega arith) w.given)
        (given_up first n (n + 1) x.reached (omega arith) (given_down first mid n x.reached le x.given)),
  );
  all = omega (arith, w.all, x.all, length-append w.reached x.reached);
  fresh = fresh_page first n (w.reached ++ x.reached) (omega arith)
      (fresh_both first mid n w.reached x.reached le (omega arith) w.given w.fresh x.fresh);
  pairs = listed_append w.items x.items ∙ ap (λ (m : List Pair). m ++ listed x.items) w.pairs
      ∙ ap (λ (m : List Pair). pairs_of_pages cs ++ m) x.pairs ∙ sym (joined_more cs c) ∙ sym pairs;
  last = λ before. AreLast-append before w.items x.items (w.last before) (x.last (before ++ listed w.items));
}

-- ---- what a page asks of its children

joined_take : (cs : List PageView) (i : ℕ) (c : PageView) → i < length cs → c ≡ get_or cs i c
    → pairs_of_pages (take (i + 1) cs) ≡ pairs_of_pages (take i cs) ++ c.pairs
joined_take cs i c l e = ap pairs_of_pages (take_next cs i c l e) ∙ joined_more (take i cs) c

joined_rest : (cs : List PageView) (i : ℕ) → length (pairs_of_pages (take i cs)) ≤ length (pairs_of_pages cs)
joined_rest [] zero = omega arith
joined_rest [] (suc i) = omega arith
joined_rest (c ∷ cs) zero = omega arith
joined_rest (c ∷ cs) (suc i) = omega (
  arith,
  joined_rest cs i,
  length-append c.pairs (pairs_of_pages (take i cs)),
  length-append c.pairs
      (pairs_of_pages cs),
)

each_child : (P : Pair → Type 0) (cs : List PageView) (i : ℕ) (d : PageView) → Each P (pairs_of_pages cs)
    → i < length cs → Each P (get_or cs i d).pairs
each_child P [] i d e l = absurd (omega arith)
each_child P (c ∷ cs) zero d e l = Each-append_left P c.pairs (pairs_of_pages cs) e
each_child P (c ∷ cs) (suc i) d e l =
    each_child P cs i d (Each-append_right P c.pairs (pairs_of_pages cs) e) (omega arith)

each_last_of : (P : Pair → Type 0) (l : List Pair) (s : Pair) → Each P l → last_of l ≡ Some s → P s
each_last_of P [] s e f = absurd cc
each_last_of P (y ∷ []) s e f = let q : y ≡ s = cc in subst P q e.0
each_last_of P (y ∷ z ∷ l) s e f = each_last_of P (z ∷ l) s e.1 f

-- the child at a place of a page
pub record IsChildAt (k : ℕ) (now : PageView) (cs : List PageView) (es : List Pair) (i : ℕ) (c : PageView) : Type 0
  where
    pub level : now.height ≡ c.height + 1
    pub deep : 0 < c.height
    pub some : 0 < c.count
    pub most : c.most ≡ now.most
    pub keys : Each (IsPairOf k) c.pairs
    pub more : pairs_of_pages (take (i + 1) cs) ≡ pairs_of_pages (take i cs) ++ c.pairs
    pub fits : length (pairs_of_pages (take i cs)) + length c.pairs ≤ length now.pairs
    pub two : 2 ≤ length c.pairs
    pub half : now.most / 2 ≤ c.count
    pub separator : (s : Pair) → i < length es → s ≡ get_or es i s → (last_of c.pairs ≡ Some s) × IsPairOf k s

pub child_at_place : (k most : ℕ) (now : PageView) (es : List Pair) (cs : List PageView) (i : ℕ) (c : PageView)
    → view_of most es cs ≡ now → IsFramedPage most es cs → Each (IsPairOf k) now.pairs → i < length cs
    → c ≡ get_or cs i c → IsChildAt k now cs es i c
child_at_place k most now es [] i c e p keys l is = absurd (omega arith)
child_at_place k most now es (x ∷ cs) i c e p keys l is =
    let pairs : now.pairs ≡ pairs_of_pages (x ∷ cs) = sym (ap (λ (v : PageView). v.pairs) e) in
    let one : IsChild x.height most c =
    subst (IsChild x.height most) (sym is) (child_at x.height most (x ∷ cs) i c p.framed.1 l) in
    let mine : Each (IsPairOf k) c.pairs = subst (λ (v : PageView). Each (IsPairOf k) v.pairs) (sym is)
    (each_child (IsPairOf k) (x ∷ cs) i c (subst (Each (IsPairOf k)) pairs keys) l) in
    let more = joined_take (x ∷ cs) i c l is in
    record {
      level = sym (ap (λ (v : PageView). v.height) e) ∙ ap (λ n. n + 1) (sym one.level);
      deep = omega (arith, one.high, one.level);
      some = omega (arith, one.half, p.four);
      most = one.same_most ∙ ap (λ (v : PageView). v.most) e;
      keys = mine;
      more = more;
      fits = omega (
        arith,
        ap (λ (m : List Pair). length m) more,
        length-append (pairs_of_pages (take i (x ∷ cs)))
            c.pairs,
        joined_rest (x ∷ cs) (i + 1),
        ap (λ (m : List Pair). length m) pairs,
      );
      two = omega (arith, one.filled, least_pairs_two x.height);
      half = subst (λ m. m / 2 ≤ c.count) (ap (λ (v : PageView). v.most) e) one.half;
      separator = λ s within g.
          let last : last_of c.pairs ≡ Some s = ap (λ (v : PageView). last_of v.pairs) is
          ∙ cut_at i es (x ∷ cs) c s p.framed.0 within ∙ ap (λ (v : Pair). let o : Option Pair = Some v in o)
          (sym g) in
          (last, each_last_of (IsPairOf k) c.pairs s mine last);
    }

-- ---- pages that fit their keys

all_of : (P : PageEntry → Type 0) (es : List PageEntry) → Each P es → All P es
all_of P es e = λ k d l. Each-at P es k d e l

pub inner_fits : (k : ℕ) (page : Page) → Each (IsLink k) page.entries.items → length page.entries.items ≤ most_entries k
    → 0 < page.last → FitsKeys k page
inner_fits k page e most last = record {
  most = most;
  keys = all_of (λ e. length e.key.items ≡ k) page.entries.items
      (Each-map (IsLink k) (λ e. length e.key.items ≡ k) (λ e h. h.0) page.entries.items e);
  kind = inr (
    all_of (λ e. 0 < e.child) page.entries.items
        (Each-map (IsLink k) (λ e. 0 < e.child) (λ e h. h.1) page.entries.items e),
    last,
  );
}

pairs_each : (k : ℕ) (es : List PageEntry) → Each (IsPairOf k) (leaf_pairs es)
    → Each (λ e. (length e.key.items ≡ k) × (0 < e.number)) es
pairs_each k [] e = tt
pairs_each k (x ∷ es) e = ((e.0.0, omega (arith, e.0.1)), pairs_each k es e.1)

each_both : (P Q : PageEntry → Type 0) (es : List PageEntry) → Each P es → Each Q es → Each (λ e. P e × Q e) es
each_both P Q [] e f = tt
each_both P Q (x ∷ es) e f = ((e.0, f.0), each_both P Q es e.1 f.1)

pub leaf_page_fits : (k : ℕ) (page : Page) → Each (IsPairOf k) (leaf_pairs page.entries.items)
    → Each (λ e. e.child ≡ 0) page.entries.items → page.last ≡ 0 → length page.entries.items ≤ most_entries k
    → FitsKeys k page
leaf_page_fits k page pairs children last most =
    let each = pairs_each k page.entries.items pairs in
    record {
      most = most;
      keys = all_of (λ e. length e.key.items ≡ k) page.entries.items
          (Each-map (λ e. (length e.key.items ≡ k) × (0 < e.number)) (λ e. length e.key.items ≡ k) (λ e h. h.0)
          page.entries.items each);
      kind = inl (
        all_of (λ e. (e.child ≡ 0) × (0 < e.number)) page.entries.items
            (each_both (λ e. e.child ≡ 0) (λ e. 0 < e.number) page.entries.items children
            (Each-map (λ e. (length e.key.items ≡ k) × (0 < e.number)) (λ e. 0 < e.number) (λ e h. h.1)
            page.entries.items
            each)),
        last,
      );
    }

pub inner_own : (k : ℕ) (page : Page) → Each (IsLink k) page.entries.items → FitsKeys k page → IsOwnPage k page
inner_own k page e fits =
    record { fits = fits; plain = λ _. Each-map (IsLink k) (λ e. e.number ≡ 0) (λ e h. h.2) page.entries.items e }

pub leaf_own : (k : ℕ) (page : Page) → page.last ≡ 0 → FitsKeys k page → IsOwnPage k page
leaf_own k page last fits = record { fits = fits; plain = λ some. absurd (omega (arith, some, last)) }
