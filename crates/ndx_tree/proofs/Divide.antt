-- A page that has too many entries falls into two.
use Rattle.std.proofs.Common.{◌≡◌, Some, mul-suc, ℕ, zero, suc, add-one, ◌+◌, ◌-◌, ◌*◌, ◌<◌, ◌≤◌, ◌/◌, List, [], ◌∷◌}
use Rattle.std.proofs.Common.{◌++◌, length, take, drop, get_or, refl, ap, sym, ◌∙◌, subst, arith, append_assoc}
use Rattle.std.proofs.Common.{length-append}
use Rattle.std.proofs.Math.Nat.{mul-le-mul_left}
use Rattle.std.proofs.lemmas.List.{get_or-take, take-take, append-nil, take-append-drop, length-take, length-drop}
use Rattle.std.proofs.lemmas.List.{take_at, drop_at}
use Rattle.key_lists.specs.Pairs.{Pair}
use Rattle.key_lists.specs.Rising.{IsRising, last_of}
use Rattle.ndx_tree.specs.Pages.{PageView, pairs_of_pages, pairs_of, height_of, view_of, IsCut, AreChildren}
use Rattle.ndx_tree.specs.Pages.{IsFramedPage, Divides, least_pairs, least_root}
use Rattle.key_lists.proofs.Rises.{rising_front, rising_back, last_back, last_of_take}
use Rattle.ndx_tree.proofs.Cut.{cut_length, framed_from, height_from, pairs_from}

pub least_pairs_one : least_pairs 1 ≡ 2
unfolding least_pairs
least_pairs_one = refl

pub least_pairs_pos : (h : ℕ) → 0 < least_pairs h
unfolding least_pairs
least_pairs_pos zero = omega arith
least_pairs_pos (suc zero) = omega arith
least_pairs_pos (suc (suc h)) = omega (arith, least_pairs_pos (suc h))

pub least_pairs_two : (h : ℕ) → 2 ≤ least_pairs h
unfolding least_pairs
least_pairs_two zero = omega arith
least_pairs_two (suc zero) = omega arith
least_pairs_two (suc (suc h)) = omega (arith, least_pairs_two (suc h))

pub least_pairs_up : (h : ℕ) → least_pairs (h + 1) ≤ 3 * least_pairs h
unfolding least_pairs
least_pairs_up zero = omega arith
least_pairs_up (suc h) = rw add-one (omega arith)

pub least_root_pairs : (h : ℕ) → least_root h ≤ least_pairs h
unfolding least_pairs least_root
least_root_pairs zero = omega arith
least_root_pairs (suc zero) = omega arith
least_root_pairs (suc (suc h)) = omega arith

pub least_root_one : least_root 1 ≡ 0
unfolding least_root
least_root_one = refl

pub least_root_two : (h : ℕ) → 0 < h → least_root (h + 1) ≡ 2 * least_pairs h
unfolding least_root
least_root_two zero p = absurd (omega arith)
least_root_two (suc h) p = rw add-one refl

pub joined_append : (cs ds : List PageView) → pairs_of_pages (cs ++ ds) ≡ pairs_of_pages cs ++ pairs_of_pages ds
joined_append [] ds = refl
joined_append (c ∷ cs) ds = ap (λ (m : List Pair). c.pairs ++ m) (joined_append cs ds)
    ∙ sym (append_assoc c.pairs (pairs_of_pages cs) (pairs_of_pages ds))

joined_split : (i : ℕ) (cs : List PageView) → pairs_of_pages cs ≡ pairs_of_pages (take i cs) ++ pairs_of_pages
    (drop i cs)
joined_split i cs = ap pairs_of_pages (sym (take-append-drop i cs)) ∙ joined_append (take i cs) (drop i cs)

pub children_take : (h m i : ℕ) (cs : List PageView) → AreChildren h m cs → AreChildren h m (take i cs)
children_take h m zero cs a = tt
children_take h m (suc i) [] a = tt
children_take h m (suc i) (c ∷ cs) a = (a.0, children_take h m i cs a.1)

pub children_drop : (h m i : ℕ) (cs : List PageView) → AreChildren h m cs → AreChildren h m (drop i cs)
children_drop h m zero cs a = a
children_drop h m (suc i) [] a = tt
children_drop h m (suc i) (c ∷ cs) a = children_drop h m i cs a.1

pub joined_length : (h m : ℕ) (cs : List PageView) → AreChildren h m cs
    → least_pairs h * length cs ≤ length (pairs_of_pages cs)
joined_length h m [] a = omega arith
joined_length h m (c ∷ cs) a = omega (
  arith,
  mul-suc (least_pairs h) (length cs),
  a.0.filled,
  joined_length h m cs a.1,
  length-append c.pairs
      (pairs_of_pages cs),
)

-- three children have enough pairs for their page
pub filled_from : (h m : ℕ) (cs : List PageView) → AreChildren h m cs → 3 ≤ length cs
    → least_pairs (h + 1) ≤ length (pairs_of_pages cs)
filled_from h m cs a n = omega (arith, least_pairs_up h, joined_length h m cs a, mul-le-mul_left (least_pairs h) n)

-- the separators and children left and right of one separator
pub cut_divide : (k : ℕ) (ss : List Pair) (cs : List PageView) (d : Pair) → IsCut ss cs → k < length ss
    → IsCut (take k ss) (take (suc k) cs) × IsCut (drop (suc k) ss) (drop (suc k) cs)
    × (last_of (pairs_of_pages (take (suc k) cs)) ≡ Some (get_or ss k d))
cut_divide k [] cs d q l = absurd (omega arith)
cut_divide k (s ∷ ss) [] d q l = absurd q
cut_divide zero (s ∷ ss) (c ∷ cs) d q l = (tt, q.1, ap last_of (append-nil c.pairs) ∙ q.0)
cut_divide (suc k) (s ∷ ss) (c ∷ []) d q l = absurd (omega (arith, cut_length ss [] q.1))
cut_divide (suc k) (s ∷ ss) (c ∷ b ∷ cs) d q l =
    let r = cut_divide k ss (b ∷ cs) d q.1 (omega arith) in
    ((q.0, r.0), r.1, last_back _ c.pairs (pairs_of_pages (take (suc k) (b ∷ cs))) r.2)

pub leaf_divides : (most k : ℕ) (es : List Pair) (s : Pair) → IsRising es → 4 ≤ most → most < length es
    → length es ≤ most + 1 → k ≡ length es / 2 → s ≡ get_or (take k es) (k - 1) s
    → Divides most es [] (take k es) [] (s, view_of most (drop k es) [])
leaf_divides most k es s r f l u e g =
    let low : length (take k es) ≡ k = length-take k es ∙ omega arith in
    let high : length (drop k es) ≡ length es - k = length-drop k es in
    let same : suc (k - 1) ≡ k = omega arith in
    let is : s ≡ get_or es (k - 1) s = g ∙ get_or-take k es (k - 1) s (omega arith) in
    let rising : IsRising (take k es ++ drop k es) = subst IsRising (sym (take-append-drop k es)) r in (
      take-append-drop k es,
      ap (λ i. last_of (take i es)) (sym same) ∙ last_of_take (k - 1) es s (omega arith)
          ∙ ap (λ (v : Pair). Some v) (sym is),
      record {
        level = refl;
        same_most = refl;
        half = omega arith;
        full = omega arith;
        filled = omega
            (arith, least_pairs_one);
        high = omega arith;
      },
      record {
        level = refl;
        same_most = refl;
        half = omega arith;
        full = omega arith;
        filled = omega
            (arith, least_pairs_one);
        high = omega arith;
      },
      record { rising = rising_front (take k es) _ rising; framed = tt; four = f },
    )

-- so many entries to the left of a separator, of so many in all, leave enough on either side, and not too many
pub record IsFair (most k all : ℕ) : Type 0 where
  pub low : most / 2 ≤ k
  pub low_full : k ≤ most
  pub high : most / 2 + (k + 1) ≤ all
  pub high_full : all ≤ most + (k + 1)

pub inner_divides : (most h k : ℕ) (ss : List Pair) (cs : List PageView) (s : Pair) → IsRising (pairs_of_pages cs)
    → IsCut ss cs → AreChildren h most cs → 4 ≤ most → IsFair most k (length ss) → s ≡ get_or ss k s
    → Divides most ss cs (take k ss) (take (suc k) cs) (s, view_of most (drop (suc k) ss) (drop (suc k) cs))
inner_divides most h k ss [] s r q a f fair g = absurd (omega (arith, cut_length ss [] q))
inner_divides most h k ss (c ∷ cs) s r q a f fair g =
    let n : length (c ∷ cs) ≡ length ss + 1 = cut_length ss (c ∷ cs) q in
    let low : most / 2 ≤ k = fair.low in
    let low_full : k ≤ most = fair.low_full in
    let high : most / 2 + (k + 1) ≤ length ss = fair.high in
    let high_full : length ss ≤ most + (k + 1) = fair.high_full in
    let at : k < length ss = omega arith in
    let parts = cut_divide k ss (c ∷ cs) s q at in
    let left : List PageView = take (suc k) (c ∷ cs) in
    let right : List PageView = drop (suc k) (c ∷ cs) in
    let split : pairs_of_pages (c ∷ cs) ≡ pairs_of_pages left ++ pairs_of_pages right = joined_split (suc k) (c ∷ cs) in
    let rising : IsRising (pairs_of_pages left ++ pairs_of_pages right) = subst IsRising split r in
    let in_left : AreChildren h most left = children_take h most (suc k) (c ∷ cs) a in
    let in_right : AreChildren h most right = children_drop h most (suc k) (c ∷ cs) a in
    let left_length : length left ≡ suc k = length-take (suc k) (c ∷ cs) ∙ omega arith in
    let right_length : length right ≡ length (c ∷ cs) - suc k = length-drop (suc k) (c ∷ cs) in
    let left_count : length (take k ss) ≡ k = length-take k ss ∙ omega arith in
    let right_count : length (drop (suc k) ss) ≡ length ss - suc k = length-drop (suc k) ss in
    let left_pairs : pairs_of (take k ss) left ≡ pairs_of_pages left = pairs_from (take k ss) left (omega arith) in
    let right_pairs : pairs_of (drop (suc k) ss) right ≡ pairs_of_pages right =
    pairs_from (drop (suc k) ss) right (omega arith) in
    let left_height : height_of left ≡ h + 1 = height_from h most left in_left (omega arith) in
    let right_height : height_of right ≡ h + 1 = height_from h most right in_right (omega arith) in
    let height : height_of (c ∷ cs) ≡ h + 1 = height_from h most (c ∷ cs) a (omega arith) in
    let is : s ≡ get_or ss k s = g in (
      ap (λ (m : List Pair). m ++ pairs_of (drop (suc k) ss) right) left_pairs
          ∙ ap (λ (m : List Pair). pairs_of_pages left ++ m) right_pairs ∙ sym split,
      ap last_of left_pairs ∙ parts.2 ∙ ap (λ (v : Pair). Some v) (sym is),
      record {
        level = left_height ∙ sym height;
        same_most = refl;
        half = omega arith;
        full = omega arith;
        filled =
            subst (λ i. least_pairs i ≤ length (pairs_of (take k ss) left)) (sym height)
            (subst (λ (m : List Pair). least_pairs (h + 1) ≤ length m) (sym left_pairs)
            (filled_from h most left in_left (omega arith)));
        high = omega (arith, height);
      },
      record {
        level = right_height ∙ sym height;
        same_most = refl;
        half = omega arith;
        full = omega arith;
        filled =
            subst (λ i. least_pairs i ≤ length (pairs_of (drop (suc k) ss) right)) (sym height)
            (subst (λ (m : List Pair). least_pairs (h + 1) ≤ length m) (sym right_pairs)
            (filled_from h most right in_right (omega arith)));
        high = omega (arith, height);
      },
      record {
        rising = subst IsRising (sym left_pairs)
            (rising_front (pairs_of_pages left) (pairs_of_pages right) rising);
        framed =
            framed_from h most (take k ss) left parts.0 in_left;
        four = f;
      },
    )

leaf_later : (most k : ℕ) (es : List Pair) → IsRising es → 4 ≤ most → most < length es → length es ≤ most + 1
    → k ≡ length es / 2 → IsFramedPage most (drop k es) [] × (length (drop k es) ≤ most)
leaf_later most k es r f l u e = (
  record {
    rising = rising_back (take k es) (drop k es) (subst IsRising (sym (take-append-drop k es)) r);
    framed =
        tt;
    four = f;
  },
  let n : length (drop k es) ≡ length es - k = length-drop k es in omega arith,
)

-- the same, where the parts are known by equations
pub leaf_halves : (most k : ℕ) (es low high : List Pair) (none : List PageView) (s : Pair) → IsFramedPage most es []
    → most < length es → length es ≤ most + 1 → k ≡ length es / 2 → low ≡ take k es → high ≡ drop k es → none ≡ []
    → s ≡ get_or low (k - 1) s → Divides most es [] low [] (s, view_of most high none) × IsFramedPage most high none
    × (length high ≤ most)
leaf_halves most k es low high none s p l u e a b n g =
    let later = leaf_later most k es p.rising p.four l u e in
    rw (a, b, n) (
      leaf_divides most k es s p.rising p.four l u e (g ∙ ap (λ (m : List Pair). get_or m (k - 1) s) a),
      later.0,
      later.1,
    )

inner_later : (most h k : ℕ) (ss : List Pair) (cs : List PageView) (d : Pair) → IsRising (pairs_of_pages cs)
    → IsCut ss cs → AreChildren h most cs → 4 ≤ most → IsFair most k (length ss)
    → IsFramedPage most (drop (suc k) ss) (drop (suc k) cs) × (length (drop (suc k) ss) ≤ most)
inner_later most h k ss cs d r q a f fair =
    let high : most / 2 + (k + 1) ≤ length ss = fair.high in
    let high_full : length ss ≤ most + (k + 1) = fair.high_full in
    let n : length cs ≡ length ss + 1 = cut_length ss cs q in
    let right_length : length (drop (suc k) cs) ≡ length cs - suc k = length-drop (suc k) cs in
    let right_count : length (drop (suc k) ss) ≡ length ss - suc k = length-drop (suc k) ss in
    let right_pairs : pairs_of (drop (suc k) ss) (drop (suc k) cs) ≡ pairs_of_pages (drop (suc k) cs) =
    pairs_from (drop (suc k) ss) (drop (suc k) cs) (omega arith) in
    let rising : IsRising (pairs_of_pages (drop (suc k) cs)) =
    rising_back (pairs_of_pages (take (suc k) cs)) _ (subst IsRising (joined_split (suc k) cs) r) in
    let parts = cut_divide k ss cs d q (omega arith) in (
      record {
        rising = subst IsRising (sym right_pairs) rising;
        framed = framed_from h most (drop (suc k) ss)
            (drop (suc k) cs) parts.1 (children_drop h most (suc k) cs a);
        four = f;
      },
      omega arith,
    )

pub inner_halves : (most k : ℕ) (es low high : List Pair) (cs left right : List PageView) (s : Pair)
    → IsFramedPage most es cs → 0 < length cs → most < length es → length es ≤ most + 1 → k ≡ length es / 2
    → low ≡ take k (take (k + 1) es) → high ≡ drop (k + 1) es → left ≡ take (k + 1) cs → right ≡ drop (k + 1) cs
    → s ≡ get_or es k s → Divides most es cs low left (s, view_of most high right) × IsFramedPage most high right
    × (length high ≤ most)
inner_halves most k es low high [] left right s p n l u e a b f g i = absurd (omega arith)
inner_halves most k es low high (c ∷ cs) left right s p n l u e a b f g i =
    let four : 4 ≤ most = p.four in
    let fair : IsFair most k (length es) =
    record { low = omega arith; low_full = omega arith; high = omega arith; high_full = omega arith } in
    let later = inner_later most c.height k es (c ∷ cs) s p.rising p.framed.0 p.framed.1 p.four fair in
    let both = inner_divides most c.height k es (c ∷ cs) s p.rising p.framed.0 p.framed.1 p.four fair i in
    let low_is : low ≡ take k es = a ∙ take-take k (k + 1) es (omega arith) in
    let high_is : high ≡ drop (suc k) es = b ∙ ap (λ n. drop n es) (add-one k) in
    let left_is : left ≡ take (suc k) (c ∷ cs) = f ∙ ap (λ n. take n (c ∷ cs)) (add-one k) in
    let right_is : right ≡ drop (suc k) (c ∷ cs) = g ∙ ap (λ n. drop n (c ∷ cs)) (add-one k) in
    rw (low_is, high_is, left_is, right_is) (both, later.0, later.1)

-- ---- the same, by the parts

pub leaf_parts : (most : ℕ) (low high : List Pair) (s : Pair) → IsRising (low ++ high) → 4 ≤ most
    → most / 2 ≤ length low → length low ≤ most → most / 2 ≤ length high → length high ≤ most → last_of low ≡ Some s
    → Divides most (low ++ high) [] low [] (s, view_of most high []) × IsFramedPage most high []
leaf_parts most low high s r f a b c d last = (
  (
    refl,
    last,
    record {
      level = refl;
      same_most = refl;
      half = a;
      full = b;
      filled = omega (arith, least_pairs_one);
      high = omega
          arith;
    },
    record {
      level = refl;
      same_most = refl;
      half = c;
      full = d;
      filled = omega (arith, least_pairs_one);
      high = omega
          arith;
    },
    record { rising = rising_front low high r; framed = tt; four = f },
  ),
  record { rising = rising_back low high r; framed = tt; four = f },
)

-- what stands at a place between two lists
between_two : (low high : List Pair) (s : Pair) → s ≡ get_or (low ++ s ∷ high) (length low) s
between_two [] high s = refl
between_two (y ∷ low) high s = between_two low high s

drop_past : (low high : List Pair) (s : Pair) → drop (suc (length low)) (low ++ s ∷ high) ≡ high
drop_past [] high s = refl
drop_past (y ∷ low) high s = drop_past low high s

-- the parts by other names
parts_are : (most : ℕ) (es low low2 : List Pair) (cs left left2 : List PageView) (high high2 : List Pair)
    (right right2 : List PageView) (s : Pair) → low ≡ low2 → left ≡ left2 → high ≡ high2 → right ≡ right2
    → Divides most es cs low left (s, view_of most high right) × IsFramedPage most high right
    → Divides most es cs low2 left2 (s, view_of most high2 right2) × IsFramedPage most high2 right2
parts_are most es low low2 cs left left2 high high2 right right2 s a b c d both = rw (sym a, sym b, sym c, sym d) both

pub inner_parts : (most : ℕ) (low high : List Pair) (left right : List PageView) (s : Pair)
    → IsFramedPage most (low ++ s ∷ high) (left ++ right) → length left ≡ length low + 1
    → IsFair most (length low) (length (low ++ s ∷ high)) → Divides most (low ++ s ∷ high) (left ++ right) low left
    (s, view_of most high right) × IsFramedPage most high right
inner_parts most low high [] right s p n fair = absurd (omega arith)
inner_parts most low high (c ∷ cs) right s p n fair =
    let k = length low in
    let more : length (c ∷ cs) ≡ suc k = omega arith in
    let both = inner_divides most c.height k (low ++ s ∷ high) ((c ∷ cs) ++ right) s p.rising p.framed.0 p.framed.1
    p.four fair (between_two low high s) in
    let later = inner_later most c.height k (low ++ s ∷ high) ((c ∷ cs) ++ right) s p.rising p.framed.0 p.framed.1
    p.four fair in
    let low_is : take k (low ++ s ∷ high) ≡ low = take_at low (s ∷ high) k refl in
    let high_is : drop (suc k) (low ++ s ∷ high) ≡ high = drop_past low high s in
    let left_is : take (suc k) ((c ∷ cs) ++ right) ≡ c ∷ cs = take_at (c ∷ cs) right (suc k) more in
    let right_is : drop (suc k) ((c ∷ cs) ++ right) ≡ right = drop_at (c ∷ cs) right (suc k) more in
    parts_are most (low ++ s ∷ high) _ low ((c ∷ cs) ++ right) _ (c ∷ cs) _ high _ right s low_is left_is high_is
    right_is (both, later.0)
