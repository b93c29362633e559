-- Whether what a walk met is in order.
use Rattle.std.proofs.Common.{◌≡◌, ℕ, zero, suc, add-one, ◌+◌, ◌-◌, ◌<◌, ◌≤◌, Bool, true, false, Some, List, [], ◌∷◌}
use Rattle.std.proofs.Common.{◌++◌, length, take, drop, get_or, refl, ap, sym, ◌∙◌, subst, arith, ⊎_elim, append_assoc}
use Rattle.std.proofs.Common.{length-append}
use Rattle.std.proofs.lemmas.Bool.{false_from_ne_true, false≢true, cases_lt, not-true}
use Rattle.std.proofs.lemmas.List.{get_or_default, get_or-take, length-take-le}
use Rattle.key_lists.specs.Order.{Each}
use Rattle.key_lists.specs.Pairs.{Pair, is_before, key_before}
use Rattle.key_lists.specs.Rising.{IsRising, AllBefore, last_of}
use Rattle.ndx_tree.specs.IndexFile.{Item, Listed, Between, listed, AreBounds, AreInOrder}
use Rattle.ndx_tree.specs.Reads.{IsBetween, AreInside, separators_at}
use Rattle.ndx_tree.specs.declared.walk.Separator.{Separator}
use Rattle.key_lists.proofs.Ordered.{Each-map, Each-at, ascending_at, IsAscending-append, Each-take}
use Rattle.key_lists.proofs.Ordered.{Each-drop}
use Rattle.key_lists.proofs.PairOrder.{key_before_down, key_before_up}
use Rattle.std.proofs.Common.{not}
use Rattle.std.specs.Bool.{IsTrue}
use Rattle.std.specs.Prelude.{◌↔◌}
use Rattle.key_lists.proofs.Rises.{rising_before_last, last_of_take}

-- the list up to a place, and one pair more
take_more : {X : Type 0} (l : List X) (i : ℕ) (d : X) → i < length l → take (suc i) l ≡ take i l ++ get_or l i d ∷ []
take_more [] i d p = absurd (omega arith)
take_more (x ∷ l) zero d p = refl
take_more (x ∷ l) (suc i) d p = ap (λ m. x ∷ m) (take_more l i d (omega arith))

rising_end : (l : List Pair) (x : Pair) → IsRising l → AllBefore l x → IsRising (l ++ x ∷ [])
rising_end l x r a = IsAscending-append is_before l (x ∷ []) r (tt, tt)
    (Each-map (λ y. is_before y x ≡ true) (λ y. Each (λ z. is_before y z ≡ true) (x ∷ [])) (λ y e. (e, tt)) l a)

-- one pair more that stands after the last
pub rising_more : (l : List Pair) (i : ℕ) (d : Pair) → 0 < i → i < length l → IsRising (take i l)
    → is_before (get_or l (i - 1) d) (get_or l i d) ≡ true → IsRising (take (i + 1) l)
rising_more l i d some within r e =
    let one : suc (i - 1) ≡ i = omega arith in
    let last : last_of (take i l) ≡ Some (get_or l (i - 1) d) =
    ap (λ n. last_of (take n l)) (sym one) ∙ last_of_take (i - 1) l d (omega arith) in
    subst IsRising (sym (ap (λ n. take n l) (add-one i) ∙ take_more l i d within))
    (rising_end (take i l) (get_or l i d) r
    (rising_before_last (get_or l (i - 1) d) (get_or l i d) (take i l) last r e))

-- the keys up to the one before a place
pub left_from : (l : List Pair) (n : ℕ) (key : List ℕ) (d : Pair) → IsRising l → 0 < n → n ≤ length l
    → key_before key (get_or l (n - 1) d).0 ≡ false → Each (λ p. key_before key p.0 ≡ false) (take n l)
left_from l n key d r some within e =
    Each-take (λ p. key_before key p.0 ≡ false) l n (λ i f less. ⊎_elim
    (λ before. false_from_ne_true _
    (λ g. false≢true (sym e ∙ key_before_up key (get_or l i d) (get_or l (n - 1) d)
    (ascending_at is_before l i (n - 1) d r before (omega arith))
    (ap (λ (p : Pair). key_before key p.0) (get_or_default l i d f (omega arith)) ∙ g))))
    (λ last. let same : i ≡ n - 1 = omega arith in ap (λ j. key_before key (get_or l j f).0) same
    ∙ ap (λ (p : Pair). key_before key p.0) (get_or_default l (n - 1) f d (omega arith)) ∙ e)
    (cases_lt i (n - 1))) within

pub left_to : (l : List Pair) (n : ℕ) (key : List ℕ) (d : Pair) → 0 < n → n ≤ length l
    → Each (λ p. key_before key p.0 ≡ false) (take n l) → key_before key (get_or l (n - 1) d).0 ≡ false
left_to l n key d some within a =
    let size : length (take n l) ≡ n = length-take-le n l within in
    ap (λ (p : Pair). key_before key p.0) (sym (get_or-take n l (n - 1) d (omega arith)))
    ∙ Each-at (λ p. key_before key p.0 ≡ false) (take n l) (n - 1) d a (omega (arith, size))

-- and from a place on
pub right_from : (l : List Pair) (n : ℕ) (key : List ℕ) (d : Pair) → IsRising l → n < length l
    → key_before (get_or l n d).0 key ≡ false → Each (λ p. key_before p.0 key ≡ false) (drop n l)
right_from l n key d r within e =
    Each-drop (λ p. key_before p.0 key ≡ false) l n (λ i f le less. ⊎_elim
    (λ after. false_from_ne_true _
    (λ g. false≢true (sym e ∙ key_before_down key (get_or l n d) (get_or l i d)
    (ascending_at is_before l n i d r after less)
    (ap (λ (p : Pair). key_before p.0 key) (get_or_default l i d f less) ∙ g))))
    (λ here. let same : i ≡ n = omega arith in ap (λ j. key_before (get_or l j f).0 key) same
    ∙ ap (λ (p : Pair). key_before p.0 key) (get_or_default l n f d within) ∙ e)
    (cases_lt n i))

pub right_to : (l : List Pair) (n : ℕ) (key : List ℕ) (d : Pair) → n < length l
    → Each (λ p. key_before p.0 key ≡ false) (drop n l) → key_before (get_or l n d).0 key ≡ false
right_to [] n key d within a = absurd (omega arith)
right_to (x ∷ l) zero key d within a = a.0
right_to (x ∷ l) (suc n) key d within a = right_to l n key d (omega arith) a

-- ---- separators as items

places : (at : ℕ) (items : List Item) → AreInside (at + length (listed items)) (separators_at at items)
places at [] = tt
places at (Listed p ∷ items) =
    subst (λ n. AreInside n (separators_at (suc at) items)) (omega arith) (places (suc at) items)
places at (Between key ∷ items) = (omega arith, places at items)

pub are_inside : (items : List Item) → AreInside (length (listed items)) (separators_at 0 items)
are_inside items = subst (λ n. AreInside n (separators_at 0 items)) (omega arith) (places 0 items)

take_front : (l r : List Pair) → take (length l) (l ++ r) ≡ l
take_front [] [] = refl
take_front [] (x ∷ r) = refl
take_front (x ∷ l) r = ap (λ (m : List Pair). x ∷ m) (take_front l r)

drop_front : (l r : List Pair) → drop (length l) (l ++ r) ≡ r
drop_front [] r = refl
drop_front (x ∷ l) r = drop_front l r

bounds_to : (left : List Pair) (items : List Item) → AreBounds left items
    → Each (IsBetween (left ++ listed items)) (separators_at (length left) items)
bounds_to left [] a = tt
bounds_to left (Listed p ∷ items) a =
    let size : length (left ++ p ∷ []) ≡ suc (length left) = omega (arith, length-append left (p ∷ [])) in
    subst (λ (m : List Pair). Each (IsBetween m) (separators_at (suc (length left)) items))
    (append_assoc left (p ∷ []) (listed items))
    (subst (λ n. Each (IsBetween ((left ++ p ∷ []) ++ listed items)) (separators_at n items)) size
    (bounds_to (left ++ p ∷ []) items a))
bounds_to left (Between key ∷ items) a = (
  (
    subst (Each (λ p. key_before key p.0 ≡ false)) (sym (take_front left (listed items))) a.0,
    subst
        (Each (λ p. key_before p.0 key ≡ false)) (sym (drop_front left (listed items))) a.1,
  ),
  bounds_to left items a.2,
)

bounds_from : (left : List Pair) (items : List Item) → Each (IsBetween (left ++ listed items))
    (separators_at (length left) items) → AreBounds left items
bounds_from left [] a = tt
bounds_from left (Listed p ∷ items) a =
    let size : length (left ++ p ∷ []) ≡ suc (length left) = omega (arith, length-append left (p ∷ [])) in
    bounds_from (left ++ p ∷ []) items
    (subst (λ n. Each (IsBetween ((left ++ p ∷ []) ++ listed items)) (separators_at n items)) (sym size)
    (subst (λ (m : List Pair). Each (IsBetween m) (separators_at (suc (length left)) items))
    (sym (append_assoc left (p ∷ []) (listed items))) a))
bounds_from left (Between key ∷ items) a = (
  subst (Each (λ p. key_before key p.0 ≡ false)) (take_front left (listed items)) a.0.0,
  subst
      (Each (λ p. key_before p.0 key ≡ false)) (drop_front left (listed items)) a.0.1,
  bounds_from left items a.1,
)

-- what was found is in order where the pairs rise and the separators stand between their sides
pub in_order_from : (items : List Item) (entries : List Pair) (separators : List Separator) → entries ≡ listed items
    → separators ≡ separators_at 0 items → IsRising entries → Each (IsBetween entries) separators → AreInOrder items
in_order_from items entries separators e f r b = record {
  rising = subst IsRising e r;
  bounds = bounds_from [] items (subst (λ (m : List Pair). Each (IsBetween m) (separators_at 0 items)) e
      (subst (Each (IsBetween entries)) f b));
}

pub in_order_to : (items : List Item) (entries : List Pair) (separators : List Separator) → entries ≡ listed items
    → separators ≡ separators_at 0 items → AreInOrder items → IsRising entries × Each (IsBetween entries) separators
in_order_to items entries separators e f o = (
  subst IsRising (sym e) o.rising,
  subst (Each (IsBetween entries)) (sym f)
      (subst (λ (m : List Pair). Each (IsBetween m) (separators_at 0 items)) (sym e) (bounds_to [] items o.bounds)),
)

-- ---- the tests of the code

neighbours : (l : List Pair) (i : ℕ) (a b : Pair) → 0 < i → i < length l → a ≡ get_or l (i - 1) a → b ≡ get_or l i b
    → is_before (get_or l (i - 1) b) (get_or l i b) ≡ is_before a b
neighbours l i a b some within ga gb = ap (λ (p : Pair). is_before p (get_or l i b))
    (get_or_default l (i - 1) b a (omega arith) ∙ sym ga) ∙ ap (is_before a) (sym gb)

pub rising_step : (l : List Pair) (i : ℕ) (a b : Pair) → 0 < i → i < length l → a ≡ get_or l (i - 1) a
    → b ≡ get_or l i b → IsRising (take i l) → is_before a b ≡ true → IsRising (take (i + 1) l)
rising_step l i a b some within ga gb r e = rising_more l i b some within r (neighbours l i a b some within ga gb ∙ e)

pub rising_there : (l : List Pair) (i : ℕ) (a b : Pair) → 0 < i → i < length l → a ≡ get_or l (i - 1) a
    → b ≡ get_or l i b → IsRising l → is_before a b ≡ true
rising_there l i a b some within ga gb r =
    sym (neighbours l i a b some within ga gb) ∙ ascending_at is_before l (i - 1) i b r (omega arith) within

pub left_test : (l : List Pair) (n : ℕ) (key : List ℕ) (a : Pair) (answer : Bool) → IsRising l → 0 < n → n ≤ length l
    → a ≡ get_or l (n - 1) a → answer ≡ key_before key a.0 → IsTrue (not answer) ↔ Each
    (λ p. key_before key p.0 ≡ false) (take n l)
left_test l n key a answer r some within g e = (
  λ t. left_from l n key a r some within (ap (λ (p : Pair). key_before key p.0) (sym g) ∙ sym e ∙ not-true answer t),
  λ each. ap not (e ∙ ap (λ (p : Pair). key_before key p.0) g ∙ left_to l n key a some within each),
)

pub right_test : (l : List Pair) (n : ℕ) (key : List ℕ) (a : Pair) (answer : Bool) → IsRising l → n < length l
    → a ≡ get_or l n a → answer ≡ key_before a.0 key → IsTrue (not answer) ↔ Each (λ p. key_before p.0 key ≡ false)
    (drop n l)
right_test l n key a answer r within g e = (
  λ t. right_from l n key a r within (ap (λ (p : Pair). key_before p.0 key) (sym g) ∙ sym e ∙ not-true answer t),
  λ each. ap not (e ∙ ap (λ (p : Pair). key_before p.0 key) g ∙ right_to l n key a within each),
)

pub take_next : {X : Type 0} (l : List X) (i : ℕ) (x : X) → i < length l → x ≡ get_or l i x
    → take (i + 1) l ≡ take i l ++ x ∷ []
take_next l i x within is =
    ap (λ n. take n l) (add-one i) ∙ take_more l i x within ∙ ap (λ y. take i l ++ y ∷ []) (sym is)

-- ---- the same, where the pairs stand in a row, of which a key and a number are read

any_pair : Pair
any_pair = ([], 0)

row_test : (l : List Pair) (i : ℕ) (key : List ℕ) (number : ℕ) (answer : Bool) → ((d : Pair) → key ≡ (get_or l i d).0)
    → ((d : Pair) → number ≡ (get_or l i d).1)
    → ((d : Pair) → answer ≡ is_before (get_or l (i - 1) d) (let x : Pair = (key, number) in x))
    → answer ≡ is_before (get_or l (i - 1) any_pair) (get_or l i any_pair)
row_test l i key number answer a b e = e any_pair
    ∙ ap (λ (m : List ℕ). is_before (get_or l (i - 1) any_pair) (let x : Pair = (m, number) in x)) (a any_pair)
    ∙ ap (λ n. is_before (get_or l (i - 1) any_pair) (let x : Pair = ((get_or l i any_pair).0, n) in x)) (b any_pair)

pub row_step : (l : List Pair) (i : ℕ) (key : List ℕ) (number : ℕ) (answer : Bool) → 0 < i → i < length l
    → ((d : Pair) → key ≡ (get_or l i d).0) → ((d : Pair) → number ≡ (get_or l i d).1)
    → ((d : Pair) → answer ≡ is_before (get_or l (i - 1) d) (let x : Pair = (key, number) in x)) → IsRising (take i l)
    → answer ≡ true → IsRising (take (i + 1) l)
row_step l i key number answer some within a b e r is =
    rising_step l i (get_or l (i - 1) any_pair) (get_or l i any_pair) some within
    (get_or_default l (i - 1) any_pair _ (omega arith)) (get_or_default l i any_pair _ within) r
    (sym (row_test l i key number answer a b e) ∙ is)

pub row_there : (l : List Pair) (i : ℕ) (key : List ℕ) (number : ℕ) (answer : Bool) → 0 < i → i < length l
    → ((d : Pair) → key ≡ (get_or l i d).0) → ((d : Pair) → number ≡ (get_or l i d).1)
    → ((d : Pair) → answer ≡ is_before (get_or l (i - 1) d) (let x : Pair = (key, number) in x)) → IsRising l
    → answer ≡ true
row_there l i key number answer some within a b e r =
    row_test l i key number answer a b e ∙ rising_there l i (get_or l (i - 1) any_pair) (get_or l i any_pair) some
    within (get_or_default l (i - 1) any_pair _ (omega arith)) (get_or_default l i any_pair _ within) r

pub left_row_test : (l : List Pair) (n : ℕ) (key other : List ℕ) (answer : Bool) → IsRising l → 0 < n → n ≤ length l
    → ((d : Pair) → other ≡ (get_or l (n - 1) d).0) → answer ≡ key_before key other
    → IsTrue (not answer) ↔ Each (λ p. key_before key p.0 ≡ false) (take n l)
left_row_test l n key other answer r some within g e = left_test l n key (get_or l (n - 1) any_pair) answer r some
    within (get_or_default l (n - 1) any_pair _ (omega arith)) (e ∙ ap (key_before key) (g any_pair))

pub right_row_test : (l : List Pair) (n : ℕ) (key other : List ℕ) (answer : Bool) → IsRising l → n < length l
    → ((d : Pair) → other ≡ (get_or l n d).0) → answer ≡ key_before other key
    → IsTrue (not answer) ↔ Each (λ p. key_before p.0 key ≡ false) (drop n l)
right_row_test l n key other answer r within g e = right_test l n key (get_or l n any_pair) answer r within
    (get_or_default l n any_pair _ within) (e ∙ ap (λ (m : List ℕ). key_before m key) (g any_pair))
