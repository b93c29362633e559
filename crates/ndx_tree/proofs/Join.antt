-- Two pages side by side become one or are parted anew.
use Rattle.std.proofs.Common.{◌≡◌, ℕ, Some, None, ◌+◌, ◌*◌, ◌<◌, ◌≤◌, ◌/◌, ⊎_elim, List, [], ◌∷◌, ◌++◌, length, refl}
use Rattle.std.proofs.Common.{ap, sym, ◌∙◌, subst, arith, length-append}
use Rattle.key_lists.specs.Pairs.{Pair}
use Rattle.key_lists.specs.Rising.{IsRising, last_of}
use Rattle.ndx_tree.specs.Pages.{PageView, pairs_of_pages, pairs_of, height_of, view_of, IsCut, IsChild, AreChildren}
use Rattle.ndx_tree.specs.Pages.{IsFramedPage, Joins, Divides, IsUneven, Evens, least_pairs}
use Rattle.ndx_tree.proofs.Cut.{cut_length, framed_from}
use Rattle.key_rows.specs.Flat.{HaveKeys}
use Rattle.ndx_tree.specs.Rooms.{AreKeyed, room_for}
use Rattle.key_lists.proofs.Ordered.{Each-append, Each-append_left, Each-append_right}
use Rattle.ndx_tree.proofs.Divide.{IsFair, least_pairs_one, filled_from, leaf_parts, inner_parts, joined_append}
use Rattle.ndx_tree.proofs.Keyed.{page_keyed, last_keyed, entries_room, most_is}
use Rattle.ndx_tree.proofs.Remove.{cut_append}

pub no_children : (most : ℕ) (fs : List Pair) (ds : List PageView) → IsFramedPage most fs ds → height_of ds ≡ 1
    → ds ≡ []
no_children most fs [] p e = refl
no_children most fs (d ∷ ds) p e = absurd (omega (arith, p.framed.1.0.high))

pub leaf_joins : (l r : PageView) (most rmost : ℕ) (es fs to : List Pair) (cs ds : List PageView)
    → view_of most es cs ≡ l → view_of rmost fs ds ≡ r → cs ≡ [] → IsFramedPage rmost fs ds → r.height ≡ l.height
    → 4 ≤ most → to ≡ es ++ fs → l.most / 2 ≤ l.count + r.count → length to ≤ most → Joins l r (view_of most to cs) None
leaf_joins l r most rmost es fs to (c ∷ cs) ds e f n p h four t enough few =
    absurd (omega (arith, ap (λ (m : List PageView). length m) n))
leaf_joins l r most rmost es fs to [] ds e f n p h four t enough few =
    let one : l.height ≡ 1 = sym (ap (λ (v : PageView). v.height) e) in
    let none : ds ≡ [] = no_children rmost fs ds p (ap (λ (v : PageView). v.height) f ∙ h ∙ one) in
    let l_pairs : l.pairs ≡ es = sym (ap (λ (v : PageView). v.pairs) e) in
    let r_pairs : r.pairs ≡ fs = sym (ap (λ (v : PageView). v.pairs) f) ∙ ap (pairs_of fs) none in
    let l_most : l.most ≡ most = sym (ap (λ (v : PageView). v.most) e) in
    let l_count : l.count ≡ length es = sym (ap (λ (v : PageView). v.count) e) in
    let r_count : r.count ≡ length fs = sym (ap (λ (v : PageView). v.count) f) in
    let size : length to ≡ length es + length fs = ap (λ (m : List Pair). length m) t ∙ length-append es fs in
    let enough_here : most / 2 ≤ l.count + r.count = subst (λ k. k / 2 ≤ l.count + r.count) l_most enough in (
      t ∙ ap (λ (m : List Pair). m ++ fs) (sym l_pairs) ∙ ap (λ (m : List Pair). l.pairs ++ m) (sym r_pairs),
      subst (λ k. IsChild k l.most (view_of most to [])) (sym one)
          (subst (λ k. IsChild 1 k (view_of most to [])) (sym l_most)
          (record {
            level = refl;
            same_most = refl;
            half = omega arith;
            full = few;
            filled = omega
                (arith, least_pairs_one);
            high = omega arith;
          })),
    )

children_append : (h m : ℕ) (cs ds : List PageView) → AreChildren h m cs → AreChildren h m ds
    → AreChildren h m (cs ++ ds)
children_append h m [] ds a b = b
children_append h m (c ∷ cs) ds a b = (a.0, children_append h m cs ds a.1 b)

-- what an inner page is with the one beside it
pub record IsJoined (l r : PageView) (most : ℕ) (es : List Pair) (cs : List PageView) : Type 0 where
  pub page : IsFramedPage most es cs
  pub pairs : pairs_of es cs ≡ l.pairs ++ r.pairs
  pub height : height_of cs ≡ l.height
  pub count : length es ≡ l.count + r.count + 1
  pub some : 0 < length cs
  pub more : length cs ≡ length es + 1
  pub filled : 2 ≤ length es → least_pairs l.height ≤ length (pairs_of es cs)
  pub same_most : most ≡ l.most

pub inner_joined : (l r : PageView) (most rmost : ℕ) (es fs : List Pair) (cs ds : List PageView) (s : Pair)
    → view_of most es cs ≡ l → view_of rmost fs ds ≡ r → IsFramedPage most es cs → IsFramedPage rmost fs ds
    → 0 < length cs → r.height ≡ l.height → r.most ≡ l.most → IsRising (l.pairs ++ r.pairs) → last_of l.pairs ≡ Some s
    → IsJoined l r most (es ++ s ∷ fs) (cs ++ ds)
inner_joined l r most rmost es fs [] ds s e f p q n h m rising last = absurd (omega arith)
inner_joined l r most rmost es fs (c ∷ cs) [] s e f p q n h m rising last =
    let a : c.height + 1 ≡ l.height = ap (λ (v : PageView). v.height) e in
    let b : 1 ≡ r.height = ap (λ (v : PageView). v.height) f in
    absurd (omega (arith, p.framed.1.0.high))
inner_joined l r most rmost es fs (c ∷ cs) (d ∷ ds) s e f p q n h m rising last =
    let a : c.height + 1 ≡ l.height = ap (λ (v : PageView). v.height) e in
    let b : d.height + 1 ≡ r.height = ap (λ (v : PageView). v.height) f in
    let l_most : most ≡ l.most = ap (λ (v : PageView). v.most) e in
    let r_most : rmost ≡ most = ap (λ (v : PageView). v.most) f ∙ m ∙ sym l_most in
    let same : d.height ≡ c.height = omega arith in
    let l_pairs : pairs_of_pages (c ∷ cs) ≡ l.pairs = ap (λ (v : PageView). v.pairs) e in
    let r_pairs : pairs_of_pages (d ∷ ds) ≡ r.pairs = ap (λ (v : PageView). v.pairs) f in
    let l_count : length es ≡ l.count = ap (λ (v : PageView). v.count) e in
    let r_count : length fs ≡ r.count = ap (λ (v : PageView). v.count) f in
    let right : AreChildren c.height most (d ∷ ds) = subst (λ k. AreChildren k most (d ∷ ds)) same
    (subst (λ k. AreChildren d.height k (d ∷ ds)) r_most q.framed.1) in
    let all : AreChildren c.height most ((c ∷ cs) ++ (d ∷ ds)) =
    children_append c.height most (c ∷ cs) (d ∷ ds) p.framed.1 right in
    let cut : IsCut (es ++ s ∷ fs) ((c ∷ cs) ++ (d ∷ ds)) = cut_append c.height most es fs (c ∷ cs) (d ∷ ds) s
    p.framed.0 q.framed.0 p.framed.1 (ap last_of l_pairs ∙ last) in
    let whole : pairs_of_pages ((c ∷ cs) ++ (d ∷ ds)) ≡ l.pairs ++ r.pairs = joined_append (c ∷ cs) (d ∷ ds)
    ∙ ap (λ (k : List Pair). k ++ pairs_of_pages (d ∷ ds)) l_pairs ∙ ap (λ (k : List Pair). l.pairs ++ k) r_pairs in
    let more : length ((c ∷ cs) ++ (d ∷ ds)) ≡ length (es ++ s ∷ fs) + 1 = cut_length _ _ cut in
    record {
      page = record {
        rising = subst IsRising (sym whole) rising;
        framed = framed_from c.height most (es ++ s ∷ fs)
            ((c ∷ cs) ++ (d ∷ ds)) cut all;
        four = p.four;
      };
      pairs = whole;
      height = a;
      count = omega (arith, length-append es (s ∷ fs));
      some = omega arith;
      more = more;
      filled = λ k. subst (λ i. least_pairs i ≤ length (pairs_of_pages ((c ∷ cs) ++ (d ∷ ds)))) a
          (filled_from c.height most ((c ∷ cs) ++ (d ∷ ds)) all (omega (arith, more)));
      same_most = l_most;
    }

height_pos : (cs : List PageView) → 0 < height_of cs
height_pos [] = omega arith
height_pos (c ∷ cs) = omega arith

-- a page with the pairs of both falls into two
pub joins_split : (l r : PageView) (most : ℕ) (es2 es3 : List Pair) (cs2 cs3 : List PageView) (p : Pair × PageView)
    → pairs_of es2 cs2 ≡ l.pairs ++ r.pairs → height_of cs2 ≡ l.height → most ≡ l.most → Divides most es2 cs2 es3 cs3 p
    → Joins l r (view_of most es3 cs3) (Some p)
joins_split l r most es2 es3 cs2 cs3 p e h m d = (
  d.0 ∙ e,
  d.1,
  subst (λ k. IsChild k l.most (view_of most es3 cs3)) h
      (subst (λ k. IsChild (height_of cs2) k (view_of most es3 cs3)) m d.2),
  subst (λ k. IsChild k l.most p.1) h
      (subst (λ k. IsChild (height_of cs2) k p.1) m d.3),
)

pub inner_joins : (l r : PageView) (most : ℕ) (es : List Pair) (cs : List PageView) → IsJoined l r most es cs
    → l.most / 2 ≤ l.count + r.count → length es ≤ most → Joins l r (view_of most es cs) None
inner_joins l r most es cs j enough few =
    let four : 4 ≤ l.most = subst (λ k. 4 ≤ k) j.same_most j.page.four in (
      j.pairs,
      subst (λ k. IsChild l.height k (view_of most es cs)) j.same_most
          (record {
            level = j.height;
            same_most = refl;
            half = subst (λ k. k / 2 ≤ length es) (sym j.same_most)
                (omega (arith, j.count));
            full = few;
            filled = j.filled (omega (arith, j.count));
            high = let g : 0
                < height_of cs = height_pos cs in omega (arith, j.height);
          }),
    )

one_left : (rest : List PageView) (c child : PageView) → ◌≡◌ {A = List PageView} (c ∷ []) (rest ++ child ∷ [])
    → c ≡ child
one_left [] c child e = cc
one_left (r ∷ rest) c child e =
    absurd (omega (arith, ap (λ (m : List PageView). length m) e, length-append rest (child ∷ [])))

-- the one child of a page without entries
pub only_child : (now child v : PageView) (most : ℕ) (es : List Pair) (cs rest : List PageView)
    → view_of most es cs ≡ now → IsFramedPage most es cs → 1 < now.height → now.count ≡ 0 → cs ≡ rest ++ child ∷ []
    → v ≡ child → IsChild v.height now.most v
only_child now child v most (s ∷ es) cs rest e p h n is same = absurd (omega (arith, ap (λ (w : PageView). w.count) e))
only_child now child v most [] [] rest e p h n is same = absurd (omega (arith, ap (λ (w : PageView). w.height) e))
only_child now child v most [] (c ∷ d ∷ cs) rest e p h n is same = absurd p.framed.0
only_child now child v most [] (c ∷ []) rest e p h n is same =
    subst (λ m. IsChild v.height m v) (ap (λ (w : PageView). w.most) e)
    (subst (λ (w : PageView). IsChild w.height most w) (one_left rest c child is ∙ sym same) p.framed.1.0)

-- ---- an entry moves over

evened_up : (most l r l2 r2 : ℕ) → 4 ≤ most → l < most / 2 → most / 2 ≤ l + 1 → r ≤ most → most ≤ l + r → l2 ≡ l + 1
    → l2 + r2 ≡ l + r → (most / 2 ≤ l2) × (l2 ≤ most) × (most / 2 ≤ r2) × (r2 ≤ most)
evened_up most l r l2 r2 four light low full more e same = (omega arith, omega arith, omega arith, omega arith)

-- where two pages are too much for one, both have enough then
pub evened : (most l r l2 r2 : ℕ) → 4 ≤ most → IsUneven most l r → most ≤ l + r → Evens l r l2 → l2 + r2 ≡ l + r
    → (most / 2 ≤ l2) × (l2 ≤ most) × (most / 2 ≤ r2) × (r2 ≤ most)
evened most l r l2 r2 four u more moved same =
    ⊎_elim
    (λ p. evened_up most l r l2 r2 four
    (⊎_elim (λ x. x) (λ x. let less : l < r = p.0 in let light : r < most / 2 = x in omega arith) u.light) u.low
    u.full_high more p.1 same)
    (λ p.
    let fewer : r ≤ l = p.0 in
    let one : l2 + 1 ≡ l = p.1 in
    let light : r < most / 2 = ⊎_elim (λ x. let low : l < most / 2 = x in omega arith) (λ x. x) u.light in
    let q = evened_up most r l r2 l2 four light u.high u.full_low (omega arith) (omega arith) (omega arith) in
    (q.2, q.3, q.0, q.1))
    moved

pub uneven_enough : (most l r : ℕ) → 4 ≤ most → IsUneven most l r → most / 2 ≤ l + r
uneven_enough most l r four u = omega (arith, u.low, u.high)

-- two pages between which an entry moved
pub record IsEvened (l r : PageView) (most : ℕ) (low high : List Pair) (left right : List PageView) (s : Pair) : Type 0
  where
    pub joins : Joins l r (view_of most low left) (Some (s, view_of most high right))
    pub page : IsFramedPage most low left
    pub full : length low ≤ most
    pub later : IsFramedPage most high right
    pub later_full : length high ≤ most

uneven_here : (l r : PageView) (most rmost : ℕ) (es fs : List Pair) (cs ds : List PageView) → view_of most es cs ≡ l
    → view_of rmost fs ds ≡ r → IsUneven l.most l.count r.count → IsUneven most (length es) (length fs)
uneven_here l r most rmost es fs cs ds e f u =
    let l_most : l.most ≡ most = sym (ap (λ (v : PageView). v.most) e) in
    let l_count : l.count ≡ length es = sym (ap (λ (v : PageView). v.count) e) in
    let r_count : r.count ≡ length fs = sym (ap (λ (v : PageView). v.count) f) in
    subst (λ k. IsUneven k (length es) (length fs)) l_most
    (subst (λ k. IsUneven l.most k (length fs)) l_count (subst (λ k. IsUneven l.most l.count k) r_count u))

pub leaf_evened : (l r : PageView) (most rmost : ℕ) (es fs low high : List Pair) (cs ds : List PageView) (s : Pair)
    → view_of most es cs ≡ l → view_of rmost fs ds ≡ r → cs ≡ [] → IsFramedPage most es cs → IsFramedPage rmost fs ds
    → r.height ≡ l.height → IsRising (l.pairs ++ r.pairs) → IsUneven l.most l.count r.count
    → most < length es + length fs → low ++ high ≡ es ++ fs → last_of low ≡ Some s
    → Evens (length es) (length fs) (length low) → IsEvened l r most low high cs ds s
leaf_evened l r most rmost es fs low high (c ∷ cs) ds s e f n p q h rising u more whole last moved =
    absurd (omega (arith, ap (λ (m : List PageView). length m) n))
leaf_evened l r most rmost es fs low high [] ds s e f n p q h rising u more whole last moved =
    let one : l.height ≡ 1 = sym (ap (λ (v : PageView). v.height) e) in
    let none : ds ≡ [] = no_children rmost fs ds q (ap (λ (v : PageView). v.height) f ∙ h ∙ one) in
    let l_pairs : l.pairs ≡ es = sym (ap (λ (v : PageView). v.pairs) e) in
    let r_pairs : r.pairs ≡ fs = sym (ap (λ (v : PageView). v.pairs) f) ∙ ap (pairs_of fs) none in
    let l_most : l.most ≡ most = sym (ap (λ (v : PageView). v.most) e) in
    let pairs : low ++ high ≡ l.pairs ++ r.pairs =
    whole ∙ ap (λ (m : List Pair). m ++ fs) (sym l_pairs) ∙ ap (λ (m : List Pair). l.pairs ++ m) (sym r_pairs) in
    let uneven : IsUneven most (length es) (length fs) = uneven_here l r most rmost es fs [] ds e f u in
    let size : length low + length high ≡ length es + length fs =
    omega (arith, length-append low high, length-append es fs, ap (λ (m : List Pair). length m) whole) in
    let b = evened most (length es) (length fs) (length low) (length high) p.four uneven (omega arith) moved size in
    let d = leaf_parts most low high s (subst IsRising (sym pairs) rising) p.four b.0 b.1 b.2 b.3 last in
    subst (λ (m : List PageView). IsEvened l r most low high [] m s) (sym none) (record {
      joins = joins_split l r most (low ++ high) low [] [] (s, view_of most high []) pairs (sym one) (sym l_most) d.0;
      page = d.0.4;
      full = b.1;
      later = d.1;
      later_full = b.3;
    })

pub inner_evened : (l r : PageView) (most rmost : ℕ) (es fs low high : List Pair) (cs ds left right : List PageView)
    (s t : Pair) → view_of most es cs ≡ l → view_of rmost fs ds ≡ r → IsFramedPage most es cs → IsFramedPage rmost fs ds
    → 0 < length cs → r.height ≡ l.height → r.most ≡ l.most → IsRising (l.pairs ++ r.pairs) → last_of l.pairs ≡ Some s
    → IsUneven l.most l.count r.count → most ≤ length es + length fs → low ++ t ∷ high ≡ es ++ s ∷ fs
    → left ++ right ≡ cs ++ ds → length left ≡ length low + 1 → Evens (length es) (length fs) (length low)
    → IsEvened l r most low high left right t
inner_evened l r most rmost es fs low high cs ds left right s t e f p q n h m rising last u more whole children one
    moved =
    let j = inner_joined l r most rmost es fs cs ds s e f p q n h m rising last in
    let page : IsFramedPage most (low ++ t ∷ high) (left ++ right) = subst
    (λ (x : List Pair). IsFramedPage most x (left ++ right)) (sym whole)
    (subst (λ (x : List PageView). IsFramedPage most (es ++ s ∷ fs) x) (sym children) j.page) in
    let uneven : IsUneven most (length es) (length fs) = uneven_here l r most rmost es fs cs ds e f u in
    let all : length (low ++ t ∷ high) ≡ length low + (length high + 1) = omega (arith, length-append low (t ∷ high)) in
    let size : length low + length high ≡ length es + length fs =
    omega (arith, all, length-append es (s ∷ fs), ap (λ (m : List Pair). length m) whole) in
    let b = evened most (length es) (length fs) (length low) (length high) p.four uneven more moved size in
    let fair : IsFair most (length low) (length (low ++ t ∷ high)) =
    record { low = b.0; low_full = b.1; high = omega (arith, all, b.2); high_full = omega (arith, all, b.3) } in
    let d = inner_parts most low high left right t page one fair in
    let pairs : pairs_of (low ++ t ∷ high) (left ++ right) ≡ l.pairs ++ r.pairs = ap
    (λ (x : List Pair). pairs_of x (left ++ right)) whole ∙ ap (λ (x : List PageView). pairs_of (es ++ s ∷ fs) x)
    children ∙ j.pairs in
    record {
      joins = joins_split l r most (low ++ t ∷ high) low (left ++ right) left (t, view_of most high right) pairs
          (ap height_of children ∙ j.height) j.same_most d.0;
      page = d.0.4;
      full = b.1;
      later = d.1;
      later_full = b.3;
    }

-- what two pages side by side have room for
pub record AreBeside (most rmost : ℕ) (es fs : List Pair) (s : Pair) (room later : ℕ) : Type 0 where
  pub k : ℕ
  pub keys : HaveKeys k es
  pub others : HaveKeys k fs
  pub size : length s.0 ≡ k
  pub same : rmost ≡ most
  pub here : (n : ℕ) → n ≤ most + 1 → n * (k + 4) ≤ room
  pub there : (n : ℕ) → n ≤ most + 1 → n * (k + 4) ≤ later
  pub all : room_for most ≤ later

pub beside : (l r : PageView) (most rmost : ℕ) (es fs : List Pair) (cs ds : List PageView) (s : Pair) (room later : ℕ)
    → view_of most es cs ≡ l → view_of rmost fs ds ≡ r → IsFramedPage most es cs → IsFramedPage rmost fs ds
    → room_for most ≤ room → room_for rmost ≤ later → r.most ≡ l.most → AreKeyed l.most (l.pairs ++ r.pairs)
    → last_of l.pairs ≡ Some s → AreBeside most rmost es fs s room later
beside l r most rmost es fs cs ds s room later e f p q enough others m keyed last =
    let k = keyed.key_length in
    let l_most : most ≡ l.most = most_is l most es cs e in
    let same : rmost ≡ most = most_is r rmost fs ds f ∙ m ∙ sym l_most in
    let fits : (k + 8) * most ≤ 504 = subst (λ j. (k + 8) * j ≤ 504) (sym l_most) keyed.fits in
    let lefts : HaveKeys k l.pairs = Each-append_left (λ p. length p.0 ≡ k) l.pairs r.pairs keyed.keys in
    let all : room_for most ≤ later = subst (λ j. room_for j ≤ later) same others in
    let some : 0 < most = omega (arith, p.four) in
    record {
      k = k;
      keys = page_keyed l k most es cs e p lefts;
      others = page_keyed r k rmost fs ds f q (Each-append_right (λ p. length p.0 ≡ k) l.pairs r.pairs keyed.keys);
      size = last_keyed k l.pairs s lefts last;
      same = same;
      here = λ n few. entries_room most k n room some fits few enough;
      there = λ n few. entries_room most k n later some fits few all;
      all = all;
    }

pub page_children : (most : ℕ) (es : List Pair) (cs : List PageView) → IsFramedPage most es cs → 0 < length cs
    → length cs ≡ length es + 1
page_children most es [] p n = absurd (omega arith)
page_children most es (c ∷ cs) p n = cut_length es (c ∷ cs) p.framed.0

pub other_children : (l r : PageView) (most rmost : ℕ) (es fs : List Pair) (cs ds : List PageView)
    → view_of most es cs ≡ l → view_of rmost fs ds ≡ r → IsFramedPage most es cs → IsFramedPage rmost fs ds
    → 0 < length cs → r.height ≡ l.height → length ds ≡ length fs + 1
other_children l r most rmost es fs [] ds e f p q n h = absurd (omega arith)
other_children l r most rmost es fs (c ∷ cs) [] e f p q n h =
    let a : c.height + 1 ≡ l.height = ap (λ (v : PageView). v.height) e in
    let b : 1 ≡ r.height = ap (λ (v : PageView). v.height) f in
    absurd (omega (arith, p.framed.1.0.high))
other_children l r most rmost es fs (c ∷ cs) (d ∷ ds) e f p q n h = cut_length fs (d ∷ ds) q.framed.0

pub leaf_childless : (l r : PageView) (most rmost : ℕ) (es fs : List Pair) (cs ds : List PageView)
    → view_of most es cs ≡ l → view_of rmost fs ds ≡ r → cs ≡ [] → IsFramedPage rmost fs ds → r.height ≡ l.height
    → ds ≡ []
leaf_childless l r most rmost es fs (c ∷ cs) ds e f n q h =
    absurd (omega (arith, ap (λ (m : List PageView). length m) n))
leaf_childless l r most rmost es fs [] ds e f n q h =
    no_children rmost fs ds q (ap (λ (v : PageView). v.height) f ∙ h ∙ sym (ap (λ (v : PageView). v.height) e))

pub pushed_keyed : (k : ℕ) (es l : List Pair) (s : Pair) → HaveKeys k es → length s.0 ≡ k → l ≡ es ++ s ∷ []
    → HaveKeys k l
pushed_keyed k es l s a b e =
    subst (λ (m : List Pair). HaveKeys k m) (sym e) (Each-append (λ p. length p.0 ≡ k) es (s ∷ []) a (b, tt))
