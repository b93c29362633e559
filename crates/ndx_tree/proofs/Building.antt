-- Levels of pages, made from the last to the first.
use Rattle.std.proofs.Common.{◌≡◌, Some, ℕ, zero, suc, ◌+◌, ◌-◌, ◌*◌, ◌<◌, ◌≤◌, ◌/◌, List, [], ◌∷◌, ◌++◌, length, take}
use Rattle.std.proofs.Common.{drop, reverse, get_or, refl, ap, sym, ◌∙◌, subst, arith, append_assoc}
use Rattle.std.proofs.Math.Nat.{mul-le-mul_left, mul-le-mul_right, le_trans}
use Rattle.std.proofs.lemmas.List.{reverse-append, take-append-drop, length-take, length-drop, take-take, drop-take}
use Rattle.std.proofs.lemmas.List.{take_all, append-nil}
use Rattle.key_lists.specs.Order.{Each}
use Rattle.key_lists.specs.Pairs.{Pair}
use Rattle.key_rows.specs.Flat.{HaveKeys}
use Rattle.ndx_tree.specs.Rooms.{AreKeyed}
use Rattle.key_lists.specs.Rising.{IsRising, last_of}
use Rattle.ndx_tree.specs.Levels.{IsAbove}
use Rattle.ndx_tree.specs.Trees.{IsRoot}
use Rattle.ndx_tree.specs.Pages.{PageView, pairs_of_pages, view_of, IsCut, IsChild, AreChildren, IsFramedPage}
use Rattle.ndx_tree.specs.Pages.{least_pairs, least_root}
use Rattle.key_lists.proofs.Ordered.{Each-append_left, Each-append_right}
use Rattle.key_lists.proofs.Rises.{rising_front, rising_back}
use Rattle.ndx_tree.proofs.Cut.{cut_length, framed_from, height_from, pairs_from}
use Rattle.ndx_tree.proofs.Divide.{least_pairs_one, least_root_one, least_root_two, least_pairs_two, joined_append}
use Rattle.ndx_tree.proofs.Divide.{children_drop, joined_length, filled_from}

-- the list with one more in front, by the list turned round
pub reverse_more : {X : Type 0} (xs ys : List X) (x : X) → ys ≡ xs ++ x ∷ [] → reverse ys ≡ x ∷ reverse xs
reverse_more xs ys x e = ap reverse e ∙ reverse-append xs (x ∷ [])

-- the last part of what is left
pub record IsPiece (most : ℕ) (all rest front last : List Pair) : Type 0 where
  pub rising : IsRising last
  pub keyed : AreKeyed most last
  pub whole : front ++ (last ++ rest) ≡ all

pub is_piece : (most n : ℕ) (all left rest front last : List Pair) → left ++ rest ≡ all → front ≡ take n left
    → last ≡ drop n left → IsRising all → AreKeyed most all → IsPiece most all rest front last
is_piece most n all left rest front last e f l r k =
    let both : front ++ last ≡ left =
    ap (λ (m : List Pair). m ++ last) f ∙ ap (λ (m : List Pair). take n left ++ m) l ∙ take-append-drop n left in
    let whole : front ++ (last ++ rest) ≡ all =
    sym (append_assoc front last rest) ∙ ap (λ (m : List Pair). m ++ rest) both ∙ e in
    let after : IsRising (last ++ rest) = rising_back front (last ++ rest) (subst IsRising (sym whole) r) in
    let keys : HaveKeys k.key_length (front ++ (last ++ rest)) = subst (HaveKeys k.key_length) (sym whole) k.keys in
    record {
      rising = rising_front last rest after;
      keyed = record {
        key_length = k.key_length;
        fits = k.fits;
        keys = Each-append_left
            (λ p. length p.0 ≡ k.key_length) last rest
            (Each-append_right (λ p. length p.0 ≡ k.key_length) front (last ++ rest) keys);
      };
      whole = whole;
    }

pub piece_of : (most : ℕ) (all rest : List Pair) (left count n : ℕ) → n + count ≡ left → take left all ++ rest ≡ all
    → IsRising all → AreKeyed most all → IsPiece most all rest (take n all) (take count (drop n all))
piece_of most all rest left count n sum e r k =
    let front : take n all ≡ take n (take left all) = sym (take-take n left all (omega arith)) in
    let last : take count (drop n all) ≡ drop n (take left all) =
    sym (drop-take n count all) ∙ ap (λ i. drop n (take i all)) sum in
    is_piece most n all (take left all) rest (take n all) (take count (drop n all)) e front last r k

pub part_length : (at count : ℕ) (l : List Pair) → at + count ≤ length l → length (take count (drop at l)) ≡ count
part_length at count l e = length-take count (drop at l) ∙ omega (arith, length-drop at l)

-- before any leaf was made
pub all_whole : (l : List Pair) (n : ℕ) (row : List PageView) → n ≡ length l → row ≡ []
    → take n l ++ pairs_of_pages (reverse row) ≡ l
all_whole l n row e f = ap (λ (m : List PageView). take n l ++ pairs_of_pages (reverse m)) f ∙ append-nil (take n l)
    ∙ take_all n l (omega (arith, e))

pub none_made : (most : ℕ) (row : List PageView) → row ≡ [] → AreChildren 1 most (reverse row)
none_made most row e = rw e tt

-- a leaf of a part of rising pairs
pub leaf_page : (most at count : ℕ) (l es : List Pair) (cs : List PageView) → IsRising l → 4 ≤ most
    → es ≡ take count (drop at l) → cs ≡ [] → IsFramedPage most es cs
leaf_page most at count l es cs r four e f =
    let behind : IsRising (drop at l) =
    rising_back (take at l) (drop at l) (subst IsRising (sym (take-append-drop at l)) r) in
    let part : IsRising (take count (drop at l)) = rising_front (take count (drop at l)) (drop count (drop at l))
    (subst IsRising (sym (take-append-drop count (drop at l))) behind) in
    rw (e, f) (record { rising = part; framed = tt; four = four })

-- a leaf that is half full
pub leaf_child : (most : ℕ) (es : List Pair) (page : PageView) → page ≡ view_of most es [] → 4 ≤ most
    → most / 2 ≤ length es → length es ≤ most → IsChild 1 most page
leaf_child most es page e four half full = subst (IsChild 1 most) (sym e)
    (record {
      level = refl;
      same_most = refl;
      half = half;
      full = full;
      filled = omega (arith, least_pairs_one);
      high =
          omega arith;
    })

pub leaf_root : (most : ℕ) (es : List Pair) (page : PageView) → page ≡ view_of most es [] → IsRising es → IsRoot page
leaf_root most es page e r = subst IsRoot (sym e)
    (record { rising = r; tall = omega (arith, least_root_one); inner = λ p. absurd (omega arith) })

-- a page above enough children for one that is not the root
pub child_above : (h most : ℕ) (cs : List PageView) (page : PageView) → IsAbove most cs page → AreChildren h most cs
    → 4 ≤ most → most / 2 + 1 ≤ length cs → length cs ≤ most + 1 → IsChild (h + 1) most page
child_above h most cs page a q four half full = record {
  level = a.level ∙ height_from h most cs q (omega arith);
  same_most = a.same_most;
  half = omega (arith, a.count);
  full = omega (arith, a.count);
  filled = subst (λ (m : List Pair). least_pairs (h + 1) ≤ length m) (sym a.pairs)
      (filled_from h most cs q (omega arith));
  high = omega arith;
}

children_high : (h most : ℕ) (cs : List PageView) → AreChildren h most cs → 0 < length cs → 0 < h
children_high h most [] a n = absurd (omega arith)
children_high h most (c ∷ cs) a n = a.0.high

pub root_above : (h most : ℕ) (cs : List PageView) (page : PageView) → IsAbove most cs page → AreChildren h most cs
    → 1 < length cs → IsRoot page
root_above h most cs page a q two =
    let enough : least_pairs h * 2 ≤ length (pairs_of_pages cs) =
    omega (arith, joined_length h most cs q, mul-le-mul_left (least_pairs h) two) in
    let tall : least_root (h + 1) ≤ length (pairs_of_pages cs) =
    omega (arith, least_root_two h (children_high h most cs q (omega arith)), enough) in
    record {
      rising = a.rising;
      tall = subst (λ i. least_root i ≤ length page.pairs) (sym (a.level ∙ height_from h most cs q (omega arith)))
          (subst (λ (m : List Pair). least_root (h + 1) ≤ length m) (sym a.pairs) tall);
      inner = λ p. omega (arith, a.count);
    }

-- one separator more, for one child more
cut_next : (ss : List Pair) (cs : List PageView) (n : ℕ) (d : PageView) (s : Pair) → suc n < length cs
    → IsCut ss (take (suc n) cs) → last_of (get_or cs n d).pairs ≡ Some s → IsCut (ss ++ s ∷ []) (take (suc (suc n)) cs)
cut_next ss [] n d s w q e = absurd (omega arith)
cut_next ss (c ∷ []) n d s w q e = absurd (omega arith)
cut_next [] (c ∷ b ∷ cs) zero d s w q e = (e, tt)
cut_next [] (c ∷ b ∷ cs) (suc n) d s w q e = absurd q
cut_next (t ∷ ss) (c ∷ b ∷ cs) zero d s w q e = absurd (omega (arith, cut_length ss [] q.1))
cut_next (t ∷ ss) (c ∷ b ∷ cs) (suc n) d s w q e = (q.0, cut_next ss (b ∷ cs) n d s (omega arith) q.1 e)

pub cut_more : (ss ss2 : List Pair) (cs : List PageView) (at : ℕ) (d : PageView) (s : Pair) → 0 < at → at < length cs
    → IsCut ss (take at cs) → last_of (get_or cs (at - 1) d).pairs ≡ Some s → ss2 ≡ ss ++ s ∷ []
    → IsCut ss2 (take (at + 1) cs)
cut_more ss ss2 cs zero d s p w q e is = absurd (omega arith)
cut_more ss ss2 cs (suc n) d s p w q e is =
    let more : suc (suc n) ≡ suc n + 1 = omega arith in
    let less : suc n - 1 ≡ n = omega arith in
    subst (λ (m : List Pair). IsCut m (take (suc n + 1) cs)) (sym is)
    (subst (λ k. IsCut (ss ++ s ∷ []) (take k cs)) more
    (cut_next ss cs n d s w q (subst (λ k. last_of (get_or cs k d).pairs ≡ Some s) less e)))

-- the keys of children at the front
pub front_keyed : (k n : ℕ) (cs : List PageView) → HaveKeys k (pairs_of_pages cs)
    → HaveKeys k (pairs_of_pages (take n cs))
front_keyed k n cs a = Each-append_left (λ p. length p.0 ≡ k) (pairs_of_pages (take n cs)) (pairs_of_pages (drop n cs))
    (subst (HaveKeys k) (ap pairs_of_pages (sym (take-append-drop n cs)) ∙ joined_append (take n cs) (drop n cs)) a)

-- so many and one more are no more than fit
pub room_more : (n m k room room2 : ℕ) → n < m → m * (k + 4) ≤ room → room ≤ room2 → (n + 1) * (k + 4) ≤ room2
room_more n m k room room2 less fits up = let more : (n + 1) * (k + 4)
    ≤ m * (k + 4) = mul-le-mul_right (k + 4) (let h : n + 1 ≤ m = omega arith in h) in le_trans more (le_trans fits up)

-- how many separators there are
pub separators : (ss : List Pair) (cs : List PageView) (at : ℕ) → at ≤ length cs → IsCut ss (take at cs)
    → length ss + 1 ≡ at
separators ss cs at w q =
    let n : length (take at cs) ≡ at = length-take at cs ∙ omega arith in
    omega (arith, cut_length ss (take at cs) q)

pub insert_end : (l : List Pair) (n : ℕ) (x : Pair) → n ≡ length l → take n l ++ x ∷ drop n l ≡ l ++ x ∷ []
insert_end [] zero x e = refl
insert_end [] (suc n) x e = absurd (omega arith)
insert_end (y ∷ l) zero x e = absurd (omega arith)
insert_end (y ∷ l) (suc n) x e = ap (λ (m : List Pair). y ∷ m) (insert_end l n x (omega arith))

-- the last children of a row
pub record AreLast (h most k count : ℕ) (cs : List PageView) : Type 0 where
  pub children : AreChildren h most cs
  pub rising : IsRising (pairs_of_pages cs)
  pub keyed : HaveKeys k (pairs_of_pages cs)
  pub number : length cs ≡ count

pub are_last : (h most k count n : ℕ) (row cs : List PageView) → cs ≡ drop n row → n + count ≡ length row
    → AreChildren h most row → IsRising (pairs_of_pages row) → HaveKeys k (pairs_of_pages row)
    → AreLast h most k count cs
are_last h most k count n row cs e w a r q =
    let split : pairs_of_pages row ≡ pairs_of_pages (take n row) ++ pairs_of_pages (drop n row) =
    ap pairs_of_pages (sym (take-append-drop n row)) ∙ joined_append (take n row) (drop n row) in
    subst (AreLast h most k count) (sym e) (record {
      children = children_drop h most n row a;
      rising = rising_back (pairs_of_pages (take n row)) (pairs_of_pages (drop n row)) (subst IsRising split r);
      keyed = Each-append_right (λ p. length p.0 ≡ k) (pairs_of_pages (take n row)) (pairs_of_pages (drop n row))
          (subst (HaveKeys k) split q);
      number = length-drop n row ∙ omega arith;
    })

pub parent_page : (h most k count : ℕ) (ss : List Pair) (cs : List PageView) → AreLast h most k count cs → IsCut ss cs
    → 4 ≤ most → 1 < count → IsFramedPage most ss cs
parent_page h most k count ss cs l q four two = record {
  rising = subst IsRising (sym (pairs_from ss cs (omega (arith, l.number)))) l.rising;
  framed = framed_from h most ss cs q l.children;
  four = four;
}

pub is_above : (h most k count : ℕ) (ss : List Pair) (cs : List PageView) (page : PageView) → AreLast h most k count cs
    → IsCut ss cs → page ≡ view_of most ss cs → IsAbove most cs page
is_above h most k count ss [] page l q e = absurd (omega (arith, cut_length ss [] q))
is_above h most k count ss (c ∷ cs) page l q e = subst (IsAbove most (c ∷ cs)) (sym e)
    (record { pairs = refl; rising = l.rising; level = refl; same_most = refl; count = sym (cut_length ss (c ∷ cs) q) })

-- one page more
pub leaf_whole : (most : ℕ) (front last all : List Pair) (made made2 : List PageView) (page : PageView)
    → page ≡ view_of most last [] → made2 ≡ page ∷ made → front ++ (last ++ pairs_of_pages made) ≡ all
    → front ++ pairs_of_pages made2 ≡ all
leaf_whole most front last all made made2 page e is w = ap (λ (m : List PageView). front ++ pairs_of_pages m) is
    ∙ ap (λ (v : PageView). front ++ (v.pairs ++ pairs_of_pages made)) e ∙ w

pub parent_whole : (n : ℕ) (row row2 made made2 : List PageView) (page : PageView) (all : List Pair) → row2 ≡ take n row
    → page.pairs ≡ pairs_of_pages (drop n row) → made2 ≡ page ∷ made → pairs_of_pages row ++ pairs_of_pages made ≡ all
    → pairs_of_pages row2 ++ pairs_of_pages made2 ≡ all
parent_whole n row row2 made made2 page all e p is w =
    let split : pairs_of_pages row ≡ pairs_of_pages (take n row) ++ pairs_of_pages (drop n row) =
    ap pairs_of_pages (sym (take-append-drop n row)) ∙ joined_append (take n row) (drop n row) in
    ap (λ (m : List PageView). pairs_of_pages m ++ pairs_of_pages made2) e
    ∙ ap (λ (m : List PageView). pairs_of_pages (take n row) ++ pairs_of_pages m) is
    ∙ ap (λ (m : List Pair). pairs_of_pages (take n row) ++ (m ++ pairs_of_pages made)) p
    ∙ sym (append_assoc (pairs_of_pages (take n row)) (pairs_of_pages (drop n row)) (pairs_of_pages made))
    ∙ ap (λ (m : List Pair). m ++ pairs_of_pages made) (sym split) ∙ w

pub left_rising : (left rest all : List Pair) → left ++ rest ≡ all → IsRising all → IsRising left
left_rising left rest all w r = rising_front left rest (subst IsRising (sym w) r)

pub left_keyed : (most : ℕ) (left rest all : List Pair) → left ++ rest ≡ all → AreKeyed most all → AreKeyed most left
left_keyed most left rest all w k =
    record {
      key_length = k.key_length;
      fits = k.fits;
      keys = Each-append_left (λ p. length p.0 ≡ k.key_length) left
          rest (subst (HaveKeys k.key_length) (sym w) k.keys);
    }

-- there are two or more at last, where one page was too little
pub two_more : (made left left2 count most : ℕ) → (made ≡ 0 → most < left) → count ≤ most → left2 + count ≡ left
    → 1 < made + 1 + left2
two_more zero left left2 count most none full e = let more : most < left = none refl in omega arith
two_more (suc made) left left2 count most none full e = omega arith

-- children have pairs
pub children_some : (h most : ℕ) (cs : List PageView) → AreChildren h most cs → Each (λ c. 0 < length c.pairs) cs
children_some h most [] a = tt
children_some h most (c ∷ cs) a = (omega (arith, a.0.filled, least_pairs_two h), children_some h most cs a.1)
