-- Facts on separators and children.
use Rattle.std.proofs.Common.{◌≡◌, Some, ℕ, zero, suc, ◌+◌, ◌<◌, ◌≤◌, true, false, cond, List, [], ◌∷◌, ◌++◌, length}
use Rattle.std.proofs.Common.{take, drop, set, get_or, refl, ap, sym, ◌∙◌, subst, arith, append_assoc}
use Rattle.std.proofs.lemmas.List.{append-nil}
use Rattle.key_lists.specs.Pairs.{Pair, is_before}
use Rattle.key_lists.specs.Rising.{AllAfter, IsRising, with_pair, IsAbsent, place_of, last_of}
use Rattle.ndx_tree.specs.Pages.{PageView, pairs_of_pages, pairs_of, height_of, IsCut, IsChild, AreChildren, IsFramed}
use Rattle.ndx_tree.specs.Pages.{IsFramedPage}
use Rattle.key_lists.proofs.Rises.{after_trans, with_pair_right, with_pair_left, other_way, absent_front, absent_back}
use Rattle.key_lists.proofs.Rises.{rising_front, rising_back, last_some, last_with, rising_after_last}
use Rattle.key_lists.proofs.Rises.{rising_before_last, after_last, absent_last}
use Rattle.key_lists.proofs.Ordered.{Each-append_left, Each-append_right}

pub cut_length : (ss : List Pair) (cs : List PageView) → IsCut ss cs → length cs ≡ length ss + 1
cut_length [] [] h = absurd h
cut_length [] (c ∷ []) h = refl
cut_length [] (c ∷ d ∷ cs) h = absurd h
cut_length (s ∷ ss) [] h = absurd h
cut_length (s ∷ ss) (c ∷ cs) h = omega (arith, cut_length ss cs h.1)

pub absent_child : (x : Pair) (cs : List PageView) (i : ℕ) (d : PageView) → IsAbsent x (pairs_of_pages cs)
    → i < length cs → IsAbsent x (get_or cs i d).pairs
absent_child x [] i d a p = absurd (omega arith)
absent_child x (c ∷ cs) zero d a p = absent_front x c.pairs (pairs_of_pages cs) a
absent_child x (c ∷ cs) (suc i) d a p =
    absent_child x cs i d (absent_back x c.pairs (pairs_of_pages cs) a) (omega arith)

-- x is not after the last of a child, and is not there: it stands before it
up_to_last : (x s : Pair) (l r : List Pair) → last_of l ≡ Some s → IsAbsent x (l ++ r) → is_before s x ≡ false
    → is_before x s ≡ true
up_to_last x s l r e n p = other_way x s (absent_last x s l e (absent_front x l r n)) p

after_rest : (x s : Pair) (l r : List Pair) → last_of l ≡ Some s → IsRising (l ++ r) → IsAbsent x (l ++ r)
    → is_before s x ≡ false → AllAfter x r
after_rest x s l r e h n p = after_trans x s r (up_to_last x s l r e n p) (rising_after_last s l r e h)

-- The child at x's place takes x: so does the page.
pub grown_pairs : (x : Pair) (ss : List Pair) (cs : List PageView) (a d : PageView) → IsCut ss cs
    → IsRising (pairs_of_pages cs) → IsAbsent x (pairs_of_pages cs)
    → a.pairs ≡ with_pair x (get_or cs (place_of x ss) d).pairs → pairs_of_pages (set cs (place_of x ss) a)
    ≡ with_pair x (pairs_of_pages cs)
grown_pairs x [] [] a d h r n e = absurd h
grown_pairs x [] (c ∷ []) a d h r n e = append-nil a.pairs ∙ e ∙ ap (with_pair x) (sym (append-nil c.pairs))
grown_pairs x [] (c ∷ b ∷ cs) a d h r n e = absurd h
grown_pairs x (s ∷ ss) [] a d h r n e = absurd h
grown_pairs x (s ∷ ss) (c ∷ cs) a d h r n e =
    (elim (is_before s x) as (λ b. is_before s x ≡ b → a.pairs ≡ with_pair x
    (get_or (c ∷ cs) (cond b (suc (place_of x ss)) 0) d).pairs → pairs_of_pages
    (set (c ∷ cs) (cond b (suc (place_of x ss)) 0) a) ≡ with_pair x (pairs_of_pages (c ∷ cs))) [
      | true ↦ λ p e. ap (λ (m : List Pair). c.pairs ++ m)
          (grown_pairs x ss cs a d h.1 (rising_back c.pairs _ r) (absent_back x c.pairs _ n) e)
          ∙ sym (with_pair_right x c.pairs (pairs_of_pages cs)
          (rising_before_last s x c.pairs h.0 (rising_front c.pairs _ r) p))
      | false ↦ λ p e. ap (λ (m : List Pair). m ++ pairs_of_pages cs) e
          ∙ sym (with_pair_left x c.pairs (pairs_of_pages cs) (after_rest x s c.pairs (pairs_of_pages cs) h.0 r n p))
    ]) refl e

pub grown_cut : (x : Pair) (ss : List Pair) (cs : List PageView) (a d : PageView) → IsCut ss cs
    → IsAbsent x (pairs_of_pages cs) → a.pairs ≡ with_pair x (get_or cs (place_of x ss) d).pairs
    → IsCut ss (set cs (place_of x ss) a)
grown_cut x [] [] a d h n e = absurd h
grown_cut x [] (c ∷ []) a d h n e = tt
grown_cut x [] (c ∷ b ∷ cs) a d h n e = absurd h
grown_cut x (s ∷ ss) [] a d h n e = absurd h
grown_cut x (s ∷ ss) (c ∷ cs) a d h n e =
    (elim (is_before s x) as (λ b. is_before s x ≡ b → a.pairs ≡ with_pair x
    (get_or (c ∷ cs) (cond b (suc (place_of x ss)) 0) d).pairs → IsCut (s ∷ ss)
    (set (c ∷ cs) (cond b (suc (place_of x ss)) 0) a)) [
      | true ↦ λ p e. (h.0, grown_cut x ss cs a d h.1 (absent_back x c.pairs _ n) e)
      | false ↦ λ p e. (
        ap last_of e ∙ last_with x s c.pairs h.0 (up_to_last x s c.pairs (pairs_of_pages cs) h.0 n p),
        h.1,
      )
    ]) refl e

-- The child at x's place takes x and is split into a and b: the page takes x.
abbrev parted : List PageView → ℕ → PageView → PageView → List PageView
parted cs i a b = take (suc i) (set cs i a) ++ b ∷ drop (suc i) (set cs i a)

pub parted_pairs : (x : Pair) (ss : List Pair) (cs : List PageView) (a b d : PageView) → IsCut ss cs
    → IsRising (pairs_of_pages cs) → IsAbsent x (pairs_of_pages cs)
    → a.pairs ++ b.pairs ≡ with_pair x (get_or cs (place_of x ss) d).pairs
    → pairs_of_pages (parted cs (place_of x ss) a b) ≡ with_pair x (pairs_of_pages cs)
parted_pairs x [] [] a b d h r n e = absurd h
parted_pairs x [] (c ∷ []) a b d h r n e =
    ap (λ (m : List Pair). a.pairs ++ m) (append-nil b.pairs) ∙ e ∙ ap (with_pair x) (sym (append-nil c.pairs))
parted_pairs x [] (c ∷ f ∷ cs) a b d h r n e = absurd h
parted_pairs x (s ∷ ss) [] a b d h r n e = absurd h
parted_pairs x (s ∷ ss) (c ∷ cs) a b d h r n e =
    (elim (is_before s x) as (λ v. is_before s x ≡ v → a.pairs ++ b.pairs
    ≡ with_pair x (get_or (c ∷ cs) (cond v (suc (place_of x ss)) 0) d).pairs
    → pairs_of_pages (parted (c ∷ cs) (cond v (suc (place_of x ss)) 0) a b)
    ≡ with_pair x (pairs_of_pages (c ∷ cs))) [
      | true ↦ λ p e. ap (λ (m : List Pair). c.pairs ++ m)
          (parted_pairs x ss cs a b d h.1 (rising_back c.pairs _ r) (absent_back x c.pairs _ n) e)
          ∙ sym (with_pair_right x c.pairs (pairs_of_pages cs)
          (rising_before_last s x c.pairs h.0 (rising_front c.pairs _ r) p))
      | false ↦ λ p e. sym (append_assoc a.pairs b.pairs (pairs_of_pages cs))
          ∙ ap (λ (m : List Pair). m ++ pairs_of_pages cs) e
          ∙ sym (with_pair_left x c.pairs (pairs_of_pages cs) (after_rest x s c.pairs (pairs_of_pages cs) h.0 r n p))
    ]) refl e

pub parted_cut : (x t : Pair) (ss : List Pair) (cs : List PageView) (a b d : PageView) → IsCut ss cs
    → IsAbsent x (pairs_of_pages cs) → a.pairs ++ b.pairs ≡ with_pair x (get_or cs (place_of x ss) d).pairs
    → last_of a.pairs ≡ Some t → 0 < length b.pairs → IsCut (take (place_of x ss) ss ++ t ∷ drop (place_of x ss) ss)
    (parted cs (place_of x ss) a b)
parted_cut x t [] [] a b d h n e l f = absurd h
parted_cut x t [] (c ∷ []) a b d h n e l f = (l, tt)
parted_cut x t [] (c ∷ g ∷ cs) a b d h n e l f = absurd h
parted_cut x t (s ∷ ss) [] a b d h n e l f = absurd h
parted_cut x t (s ∷ ss) (c ∷ cs) a b d h n e l f =
    (elim (is_before s x) as (λ v. is_before s x ≡ v → a.pairs ++ b.pairs
    ≡ with_pair x (get_or (c ∷ cs) (cond v (suc (place_of x ss)) 0) d).pairs
    → IsCut (take (cond v (suc (place_of x ss)) 0) (s ∷ ss) ++ t ∷ drop (cond v (suc (place_of x ss)) 0) (s ∷ ss))
    (parted (c ∷ cs) (cond v (suc (place_of x ss)) 0) a b)) [
      | true ↦ λ p e. (h.0, parted_cut x t ss cs a b d h.1 (absent_back x c.pairs _ n) e l f)
      | false ↦ λ p e. (
        l,
        (
          last_some s a.pairs b.pairs (ap last_of e ∙ last_with x s c.pairs h.0
              (up_to_last x s c.pairs (pairs_of_pages cs) h.0 n p)) f,
          h.1,
        ),
      )
    ]) refl e

pub child_at : (height m : ℕ) (cs : List PageView) (i : ℕ) (d : PageView) → AreChildren height m cs → i < length cs
    → IsChild height m (get_or cs i d)
child_at height m [] i d a p = absurd (omega arith)
child_at height m (c ∷ cs) zero d a p = a.0
child_at height m (c ∷ cs) (suc i) d a p = child_at height m cs i d a.1 (omega arith)

pub children_set : (height m : ℕ) (cs : List PageView) (i : ℕ) (a : PageView) → AreChildren height m cs
    → IsChild height m a → AreChildren height m (set cs i a)
children_set height m [] i a h q = tt
children_set height m (c ∷ cs) zero a h q = (q, h.1)
children_set height m (c ∷ cs) (suc i) a h q = (h.0, children_set height m cs i a h.1 q)

pub children_insert : (height m : ℕ) (cs : List PageView) (i : ℕ) (b : PageView) → AreChildren height m cs
    → IsChild height m b → AreChildren height m (take i cs ++ b ∷ drop i cs)
children_insert height m cs zero b h q = (q, h)
children_insert height m [] (suc i) b h q = (q, tt)
children_insert height m (c ∷ cs) (suc i) b h q = (h.0, children_insert height m cs i b h.1 q)

pub framed_from : (height m : ℕ) (ss : List Pair) (cs : List PageView) → IsCut ss cs → AreChildren height m cs
    → IsFramed m ss cs
framed_from height m ss [] h a = tt
framed_from height m ss (c ∷ cs) h a = (h, subst (λ n. AreChildren n m (c ∷ cs)) (sym a.0.level) a)

pub height_from : (height m : ℕ) (cs : List PageView) → AreChildren height m cs → 0 < length cs
    → height_of cs ≡ height + 1
height_from height m [] a p = absurd (omega arith)
height_from height m (c ∷ cs) a p = ap (λ n. n + 1) a.0.level

pub pairs_from : (es : List Pair) (cs : List PageView) → 0 < length cs → pairs_of es cs ≡ pairs_of_pages cs
pairs_from es [] p = absurd (omega arith)
pairs_from es (c ∷ cs) p = refl

pub cut_from : (m : ℕ) (es : List Pair) (cs : List PageView) → IsFramed m es cs → 0 < length cs → IsCut es cs
cut_from m es [] f p = absurd (omega arith)
cut_from m es (c ∷ cs) f p = f.0

pub height_of-pos : (cs : List PageView) → 1 ≤ height_of cs
height_of-pos [] = omega arith
height_of-pos (c ∷ cs) = omega arith

-- separators stand after what the children stand after
cut_after : (x : Pair) (ss : List Pair) (cs : List PageView) → IsCut ss cs → AllAfter x (pairs_of_pages cs)
    → AllAfter x ss
cut_after x [] cs h a = tt
cut_after x (s ∷ ss) [] h a = absurd h
cut_after x (s ∷ ss) (c ∷ cs) h a = (
  after_last x s c.pairs h.0 (Each-append_left (λ y. is_before x y ≡ true) c.pairs (pairs_of_pages cs) a),
  cut_after
      x ss cs h.1 (Each-append_right (λ y. is_before x y ≡ true) c.pairs (pairs_of_pages cs) a),
)

cut_rising : (ss : List Pair) (cs : List PageView) → IsCut ss cs → IsRising (pairs_of_pages cs) → IsRising ss
cut_rising [] cs h r = tt
cut_rising (s ∷ ss) [] h r = absurd h
cut_rising (s ∷ ss) (c ∷ cs) h r = (
  cut_after s ss cs h.1 (rising_after_last s c.pairs (pairs_of_pages cs) h.0 r),
  cut_rising ss cs h.1 (rising_back c.pairs (pairs_of_pages cs) r),
)

-- a page's entries rise
pub entries_rising : (m : ℕ) (es : List Pair) (cs : List PageView) → IsFramedPage m es cs → IsRising es
entries_rising m es [] p = p.rising
entries_rising m es (c ∷ cs) p = cut_rising es (c ∷ cs) p.framed.0 p.rising
