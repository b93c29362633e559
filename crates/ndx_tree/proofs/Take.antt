-- A page takes an entry.
use Rattle.std.proofs.Common.{◌≡◌, ℕ, suc, add-one, ◌+◌, ◌<◌, ◌≤◌, List, [], ◌∷◌, ◌++◌, Some, None, length, take, drop}
use Rattle.std.proofs.Common.{set, get_or, refl, ap, sym, ◌∙◌, subst, arith, length-append, length-set}
use Rattle.key_lists.specs.Pairs.{Pair}
use Rattle.key_lists.specs.Rising.{IsRising, with_pair, IsAbsent, place_of}
use Rattle.ndx_tree.specs.Pages.{PageView, pairs_of_pages, pairs_of, height_of, view_of, IsCut, IsChild, AreChildren}
use Rattle.ndx_tree.specs.Pages.{IsFramedPage, Inserts, Divides}
use Rattle.key_lists.proofs.Rises.{put_at_place, place_of-le, rising_with_pair, length-with_pair}
use Rattle.ndx_tree.proofs.Cut.{cut_length, absent_child, grown_pairs, grown_cut, parted_pairs, parted_cut, child_at}
use Rattle.ndx_tree.proofs.Cut.{children_set, children_insert, framed_from, height_from, pairs_from}
use Rattle.ndx_tree.proofs.Divide.{least_pairs_pos}

-- what is kept of a page that takes x, but for its count
pub record Takes (most : ℕ) (es : List Pair) (cs : List PageView) (x : Pair) (es2 : List Pair)
    (cs2 : List PageView) : Type 0 where
  pub page : IsFramedPage most es2 cs2
  pub pairs : pairs_of es2 cs2 ≡ with_pair x (pairs_of es cs)
  pub height : height_of cs2 ≡ height_of cs

pub leaf_takes : (most : ℕ) (es es2 : List Pair) (cs : List PageView) (x : Pair) (at : ℕ) → IsFramedPage most es cs
    → cs ≡ [] → IsAbsent x (pairs_of es cs) → at ≡ place_of x es → es2 ≡ take at es ++ x ∷ drop at es
    → Takes most es cs x es2 cs
leaf_takes most es es2 (c ∷ cs) x at p n a g e = absurd (omega (arith, ap (λ (m : List PageView). length m) n))
leaf_takes most es es2 [] x at p n a g e =
    let is : es2 ≡ with_pair x es = e ∙ ap (λ i. take i es ++ x ∷ drop i es) g ∙ put_at_place x es in
    record {
      page = record {
        rising = subst IsRising (sym is) (rising_with_pair x es p.rising a);
        framed = tt;
        four =
            p.four;
      };
      pairs = is;
      height = refl;
    }

-- the child at x's place, as a page below
pub placed_child : (most : ℕ) (es : List Pair) (cs : List PageView) (x : Pair) (at : ℕ) (d : PageView)
    → IsFramedPage most es cs → 0 < length cs → at ≡ place_of x es → (at < length cs) × (length cs ≡ length es + 1)
    × ((h : ℕ) × (height_of cs ≡ h + 1) × IsChild h most (get_or cs at d))
placed_child most es [] x at d p n g = absurd (omega arith)
placed_child most es (c ∷ cs) x at d p n g =
    let l : length (c ∷ cs) ≡ length es + 1 = cut_length es (c ∷ cs) p.framed.0 in
    let b : at < length (c ∷ cs) = omega (arith, place_of-le x es) in
    (b, l, (c.height, refl, child_at c.height most (c ∷ cs) at d p.framed.1 b))

grown_child : (h most : ℕ) (old a : PageView) (x : Pair) → IsChild h most old → Inserts old x a None → IsChild h most a
grown_child h most old a x o i = record {
  level = i.1 ∙ o.level;
  same_most = i.2
      ∙ o.same_most;
  half = omega (arith, o.half, i.3);
  full = omega (arith, i.4, o.same_most);
  filled = omega
      (arith, o.filled, ap (λ (m : List Pair). length m) i.0, length-with_pair x old.pairs);
  high = o.high;
}

pub child_grows : (most : ℕ) (es : List Pair) (cs cs2 : List PageView) (x : Pair) (at : ℕ) (old a : PageView)
    → IsFramedPage most es cs → 0 < length cs → IsAbsent x (pairs_of es cs) → at ≡ place_of x es
    → old ≡ get_or cs at old → cs2 ≡ set cs at a → Inserts old x a None → Takes most es cs x es cs2
child_grows most es [] cs2 x at old a p n b g is e i = absurd (omega arith)
child_grows most es (c ∷ cs) cs2 x at old a p n b g is e i =
    let child = placed_child most es (c ∷ cs) x at old p n g in
    let one : IsChild c.height most old =
    subst (IsChild c.height most) (sym is) (child_at c.height most (c ∷ cs) at old p.framed.1 child.0) in
    let all : AreChildren c.height most (set (c ∷ cs) at a) =
    children_set c.height most (c ∷ cs) at a p.framed.1 (grown_child c.height most old a x one i) in
    let kept : length (set (c ∷ cs) at a) ≡ length (c ∷ cs) = length-set (c ∷ cs) at a in
    let pairs : a.pairs ≡ with_pair x (get_or (c ∷ cs) (place_of x es) old).pairs =
    i.0 ∙ ap (λ (m : PageView). with_pair x m.pairs) (is ∙ ap (λ j. get_or (c ∷ cs) j old) g) in
    let joins : pairs_of_pages (set (c ∷ cs) at a) ≡ with_pair x (pairs_of_pages (c ∷ cs)) =
    ap (λ j. pairs_of_pages (set (c ∷ cs) j a)) g ∙ grown_pairs x es (c ∷ cs) a old p.framed.0 p.rising b pairs in
    let cut : IsCut es (set (c ∷ cs) at a) =
    subst (λ j. IsCut es (set (c ∷ cs) j a)) (sym g) (grown_cut x es (c ∷ cs) a old p.framed.0 b pairs) in
    let seen : pairs_of es (set (c ∷ cs) at a) ≡ with_pair x (pairs_of_pages (c ∷ cs)) =
    pairs_from es (set (c ∷ cs) at a) (omega arith) ∙ joins in
    rw e (record {
      page = record {
        rising = subst IsRising (sym seen)
            (rising_with_pair x (pairs_of_pages (c ∷ cs)) p.rising b);
        framed = framed_from c.height most es
            (set (c ∷ cs) at a) cut all;
        four =
            p.four;
      };
      pairs = seen;
      height = height_from c.height most (set (c ∷ cs) at a) all (omega arith);
    })

pub child_parts : (most : ℕ) (es es2 : List Pair) (cs cs1 cs2 : List PageView) (x s : Pair) (at : ℕ)
    (old a b : PageView) → IsFramedPage most es cs → 0 < length cs → IsAbsent x (pairs_of es cs) → at ≡ place_of x es
    → old ≡ get_or cs at old → cs1 ≡ set cs at a → es2 ≡ take at es ++ s ∷ drop at es
    → cs2 ≡ take (at + 1) cs1 ++ b ∷ drop (at + 1) cs1 → Inserts old x a (Some (s, b))
    → Takes most es cs x es2 cs2 × (0 < length cs2)
child_parts most es es2 [] cs1 cs2 x s at old a b p n absent g is e f k i = absurd (omega arith)
child_parts most es es2 (c ∷ cs) cs1 cs2 x s at old a b p n absent g is e f k i =
    let child = placed_child most es (c ∷ cs) x at old p n g in
    let one : IsChild c.height most old =
    subst (IsChild c.height most) (sym is) (child_at c.height most (c ∷ cs) at old p.framed.1 child.0) in
    let left : IsChild c.height most a =
    subst (λ m. IsChild c.height m a) one.same_most (subst (λ h. IsChild h old.most a) one.level i.2) in
    let right : IsChild c.height most b =
    subst (λ m. IsChild c.height m b) one.same_most (subst (λ h. IsChild h old.most b) one.level i.3) in
    let new : List PageView = take (suc at) (set (c ∷ cs) at a) ++ b ∷ drop (suc at) (set (c ∷ cs) at a) in
    let is_new : cs2 ≡ new = k ∙ ap (λ j. take j cs1 ++ b ∷ drop j cs1) (add-one at)
    ∙ ap (λ (m : List PageView). take (suc at) m ++ b ∷ drop (suc at) m) e in
    let all : AreChildren c.height most new = children_insert c.height most (set (c ∷ cs) at a) (suc at) b
    (children_set c.height most (c ∷ cs) at a p.framed.1 left) right in
    let some : 0 < length new =
    omega (arith, length-append (take (suc at) (set (c ∷ cs) at a)) (b ∷ drop (suc at) (set (c ∷ cs) at a))) in
    let pairs : a.pairs ++ b.pairs ≡ with_pair x (get_or (c ∷ cs) (place_of x es) old).pairs =
    i.0 ∙ ap (λ (m : PageView). with_pair x m.pairs) (is ∙ ap (λ j. get_or (c ∷ cs) j old) g) in
    let filled : 0 < length b.pairs = omega (arith, right.filled, least_pairs_pos c.height) in
    let joins : pairs_of_pages new ≡ with_pair x (pairs_of_pages (c ∷ cs)) = ap
    (λ j. pairs_of_pages (take (suc j) (set (c ∷ cs) j a) ++ b ∷ drop (suc j) (set (c ∷ cs) j a))) g
    ∙ parted_pairs x es (c ∷ cs) a b old p.framed.0 p.rising absent pairs in
    let cut : IsCut (take at es ++ s ∷ drop at es) new = subst
    (λ j. IsCut (take j es ++ s ∷ drop j es)
    (take (suc j) (set (c ∷ cs) j a) ++ b ∷ drop (suc j) (set (c ∷ cs) j a))) (sym g)
    (parted_cut x s es (c ∷ cs) a b old p.framed.0 absent pairs i.1 filled) in
    let es_new : List Pair = take at es ++ s ∷ drop at es in
    let seen : pairs_of es_new new ≡ with_pair x (pairs_of_pages (c ∷ cs)) = pairs_from es_new new some ∙ joins in
    rw (f, is_new) (
      record {
        page =
            record {
              rising = subst IsRising (sym seen) (rising_with_pair x (pairs_of_pages (c ∷ cs)) p.rising absent);
              framed = framed_from c.height most es_new new cut all;
              four = p.four;
            };
        pairs = seen;
        height = height_from
            c.height most new all some;
      },
      some,
    )

-- A page that was seen as `now` has taken x, and is not too full.
pub done_inserts : (now : PageView) (most : ℕ) (es es2 : List Pair) (cs cs2 : List PageView) (x : Pair)
    → view_of most es cs ≡ now → Takes most es cs x es2 cs2 → length es ≤ length es2 → length es2 ≤ most
    → Inserts now x (view_of most es2 cs2) None
done_inserts now most es es2 cs cs2 x e k l u =
    subst (λ (v : PageView). Inserts v x (view_of most es2 cs2) None) e (k.pairs, k.height, refl, l, u)

-- It was too full, and falls into two.
pub split_inserts : (now : PageView) (most : ℕ) (es es2 es3 : List Pair) (cs cs2 cs3 : List PageView) (x : Pair)
    (p : Pair × PageView) → view_of most es cs ≡ now → Takes most es cs x es2 cs2 → Divides most es2 cs2 es3 cs3 p
    → Inserts now x (view_of most es3 cs3) (Some p)
split_inserts now most es es2 es3 cs cs2 cs3 x p e k d =
    subst (λ (v : PageView). Inserts v x (view_of most es3 cs3) (Some p)) e (
      d.0 ∙ k.pairs,
      d.1,
      subst (λ h. IsChild h most (view_of most es3 cs3)) k.height d.2,
      subst
          (λ h. IsChild h most p.1) k.height d.3,
    )

pub absent_within : (now : PageView) (most : ℕ) (es : List Pair) (cs : List PageView) (x : Pair)
    → view_of most es cs ≡ now → IsAbsent x now.pairs → IsAbsent x (pairs_of es cs)
absent_within now most es cs x e a = subst (λ (v : PageView). IsAbsent x v.pairs) (sym e) a

-- what the call on the child asks, and how it lies below its page
pub child_ready : (now : PageView) (most : ℕ) (es : List Pair) (cs : List PageView) (x : Pair) (at : ℕ) (old : PageView)
    → view_of most es cs ≡ now → IsFramedPage most es cs → 0 < length cs → IsAbsent x now.pairs → at ≡ place_of x es
    → old ≡ get_or cs at old → (now.height ≡ old.height + 1) × (now.most ≡ old.most) × IsAbsent x old.pairs
    × (at < length cs) × (length cs ≡ length es + 1)
child_ready now most es cs x at old e p n a g is =
    let child = placed_child most es cs x at old p n g in
    let one : IsChild child.2.0 most old = subst (IsChild child.2.0 most) (sym is) child.2.2 in
    let absent : IsAbsent x (pairs_of_pages cs) =
    subst (IsAbsent x) (pairs_from es cs n) (absent_within now most es cs x e a) in (
      sym (ap (λ (v : PageView). v.height) e) ∙ child.2.1 ∙ ap (λ k. k + 1) (sym one.level),
      sym
          (ap (λ (v : PageView). v.most) e) ∙ sym one.same_most,
      subst (λ (v : PageView). IsAbsent x v.pairs) (sym is)
          (absent_child x cs at old absent child.0),
      child.0,
      child.1,
    )
