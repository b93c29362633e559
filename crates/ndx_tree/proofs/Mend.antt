-- A child that has too few entries is joined with a neighbour.
use Rattle.std.proofs.Common.{◌≡◌, ℕ, zero, suc, add-one, Some, None, ◌+◌, ◌<◌, ◌≤◌, ◌/◌, ◌⊎◌, inl, inr, ⊎_elim, List}
use Rattle.std.proofs.Common.{[], ◌∷◌, ◌++◌, length, take, drop, set, get_or, refl, ap, sym, ◌∙◌, subst, arith}
use Rattle.std.proofs.Common.{append_assoc, length-append}
use Rattle.std.proofs.lemmas.Bool.{cases_eq}
use Rattle.std.proofs.lemmas.List.{length-take, length-drop, get_or_default}
use Rattle.std.proofs.lemmas.List.Edits.{get_or-remove_below}
use Rattle.key_lists.specs.Pairs.{Pair}
use Rattle.key_lists.specs.Rising.{IsRising, last_of}
use Rattle.ndx_tree.specs.Pages.{PageView, pairs_of_pages, pairs_of, height_of, IsCut, IsChild, IsLight, IsUneven}
use Rattle.ndx_tree.specs.Pages.{AreBut, AreChildrenBesides, Joins, IsMending, Mends, least_pairs, least_root}
use Rattle.key_lists.proofs.Rises.{rising_front, rising_back}
use Rattle.ndx_tree.proofs.Cut.{cut_length, framed_from, height_from, pairs_from, children_insert}
use Rattle.ndx_tree.proofs.Divide.{least_pairs_pos, least_root_pairs}
use Rattle.ndx_tree.proofs.Remove.{but_fix, but_other, apart_left, apart_right, merged, merged_children, merged_length}
use Rattle.ndx_tree.proofs.Remove.{merged_cut, merged_pairs, reparted, reparted_cut, reparted_pairs, cut_out}

rising_two : (i : ℕ) (cs : List PageView) (d : PageView) → IsRising (pairs_of_pages cs) → suc i < length cs
    → IsRising ((get_or cs i d).pairs ++ (get_or cs (suc i) d).pairs)
rising_two i [] d r p = absurd (omega arith)
rising_two i (c ∷ []) d r p = absurd (omega arith)
rising_two zero (c ∷ f ∷ cs) d r p = rising_front (c.pairs ++ f.pairs) (pairs_of_pages cs)
    (subst IsRising (sym (append_assoc c.pairs f.pairs (pairs_of_pages cs))) r)
rising_two (suc i) (c ∷ f ∷ cs) d r p = rising_two i (f ∷ cs) d (rising_back c.pairs _ r) (omega arith)

pub cut_at : (i : ℕ) (ss : List Pair) (cs : List PageView) (d : PageView) (e : Pair) → IsCut ss cs → i < length ss
    → last_of (get_or cs i d).pairs ≡ Some (get_or ss i e)
cut_at i [] cs d e h p = absurd (omega arith)
cut_at i (s ∷ ss) [] d e h p = absurd h
cut_at zero (s ∷ ss) (c ∷ cs) d e h p = h.0
cut_at (suc i) (s ∷ ss) (c ∷ cs) d e h p = cut_at i ss cs d e h.1 (omega arith)

height_at : (cs : List PageView) (d : PageView) → 0 < length cs → height_of cs ≡ (get_or cs 0 d).height + 1
height_at [] d p = absurd (omega arith)
height_at (c ∷ cs) d p = refl

light_from : (h m : ℕ) (c : PageView) → IsChild h m c → IsLight h m c
light_from h m c q = record {
  level = q.level;
  same_most = q.same_most;
  half = omega (arith, q.half);
  full = q.full;
  well = record {
    filled = λ _. subst (λ k. least_pairs k ≤ length c.pairs) (sym q.level) q.filled;
    some = λ _. omega
        (arith, q.filled, least_pairs_pos h);
    tall = λ _. subst (λ k. least_root k ≤ length c.pairs) (sym q.level)
        (omega (arith, q.filled, least_root_pairs h));
  };
  high = q.high;
}

light_at : (h m at : ℕ) (es : List Pair) (cs : List PageView) (j : ℕ) (d : PageView) → IsMending h m at es cs
    → j < length cs → IsLight h m (get_or cs j d)
light_at h m at es cs j d w p =
    ⊎_elim (λ e. subst (λ k. IsLight h m (get_or cs k d)) e (w.light d))
    (λ n. light_from h m _ (but_other h m at j cs d w.but p n)) (cases_eq at j)

-- two pages side by side, of which one is light
pub record AreTwo (h m : ℕ) (l r : PageView) (s : Pair) : Type 0 where
  pub l_height : l.height ≡ h
  pub r_height : r.height ≡ h
  pub l_most : l.most ≡ m
  pub r_most : r.most ≡ m
  pub rising : IsRising (l.pairs ++ r.pairs)
  pub separator : last_of l.pairs ≡ Some s
  pub uneven : IsUneven m l.count r.count

pub are_two : (h m at first : ℕ) (es : List Pair) (cs : List PageView) (d : PageView) (e : Pair)
    → IsMending h m at es cs → (get_or cs at d).count < m / 2 → first < length es → (first ≡ at) ⊎ (first + 1 ≡ at)
    → AreTwo h m (get_or cs first d) (get_or cs (suc first) d) (get_or es first e)
are_two h m at first es cs d e w short p near =
    let n : length cs ≡ length es + 1 = cut_length es cs w.cut in
    let l = light_at h m at es cs first d w (omega arith) in
    let r = light_at h m at es cs (suc first) d w (omega arith) in
    let light : ((get_or cs first d).count < m / 2) ⊎ ((get_or cs (suc first) d).count < m / 2) =
    ⊎_elim
    (λ q. inl (subst (λ k. (get_or cs k d).count < m / 2) (sym q) short))
    (λ q. inr (subst (λ k. (get_or cs k d).count < m / 2) (sym q ∙ add-one first) short))
    near in
    record {
      l_height = l.level;
      r_height = r.level;
      l_most = l.same_most;
      r_most = r.same_most;
      rising = rising_two
          first cs d w.rising (omega arith);
      separator = cut_at first es cs d e w.cut p;
      uneven =
          record { low = l.half; high = r.half; full_low = l.full; full_high = r.full; light = light };
    }

apart : (h m at first : ℕ) (es : List Pair) (cs : List PageView) → IsMending h m at es cs → suc first < length cs
    → (first ≡ at) ⊎ (first + 1 ≡ at) → AreChildrenBesides h m first cs
apart h m at first es cs w p near = ⊎_elim (λ q. apart_left h m first cs (subst (λ k. AreBut h m k cs) (sym q) w.but) p)
    (λ q. apart_right h m first cs (subst (λ k. AreBut h m k cs) (sym q ∙ add-one first) w.but) p) near

mending_height : (h m at : ℕ) (es : List Pair) (cs : List PageView) (d : PageView) → IsMending h m at es cs
    → height_of cs ≡ h + 1
mending_height h m at es cs d w = height_at cs d (omega (arith, w.within))
    ∙ ap (λ k. k + 1) (light_at h m at es cs 0 d w (omega (arith, w.within))).level

-- nothing had to be done
pub mend_none : (h m at : ℕ) (es : List Pair) (cs : List PageView) (d : PageView) → IsMending h m at es cs
    → m / 2 ≤ (get_or cs at d).count → Mends m es cs es cs
mend_none h m at es cs d w enough =
    let c = w.light d in
    let child : IsChild h m (get_or cs at d) =
    record {
      level = c.level;
      same_most = c.same_most;
      half = enough;
      full = c.full;
      filled = subst
          (λ k. least_pairs k ≤ length (get_or cs at d).pairs) c.level
          (c.well.filled (subst (λ k. k / 2 ≤ (get_or cs at d).count) (sym c.same_most) enough));
      high = c.high;
    } in
    let all = but_fix h m at cs d w.but (λ _. child) in
    let is : pairs_of es cs ≡ pairs_of_pages cs = pairs_from es cs (omega (arith, w.within)) in
    record {
      page = record {
        rising = subst IsRising (sym is) w.rising;
        framed = framed_from h m es cs w.cut all;
        four =
            w.four;
      };
      pairs = is;
      height = refl;
      lost = omega arith;
      fewer = omega arith;
    }

pub mend_one : (h m at first : ℕ) (es : List Pair) (cs : List PageView) (n d : PageView) → IsMending h m at es cs
    → first < length es → (first ≡ at) ⊎ (first + 1 ≡ at) → (get_or cs first d).height ≡ h
    → (get_or cs first d).most ≡ m → Joins (get_or cs first d) (get_or cs (suc first) d) n None
    → Mends m es cs (cut_out es first) (merged cs first n)
mend_one h m at first es cs n d w p near lh lm j =
    let k : length cs ≡ length es + 1 = cut_length es cs w.cut in
    let within : suc first < length cs = omega arith in
    let child : IsChild h m n =
    subst (λ i. IsChild i m n) lh (subst (λ i. IsChild (get_or cs first d).height i n) lm j.1) in
    let all = merged_children h m first cs n (apart h m at first es cs w within near) within child in
    let cut = merged_cut first es cs n d w.cut within j.0 in
    let size = merged_length first cs n within in
    let lost : length (cut_out es first) + 1 ≡ length es = omega (
      arith,
      length-append (take first es) (drop (suc first) es),
      length-take first es,
      length-drop (suc first)
          es,
    ) in
    let is : pairs_of (cut_out es first) (merged cs first n) ≡ pairs_of_pages cs = pairs_from (cut_out es first)
    (merged cs first n) (omega (arith, size)) ∙ merged_pairs first cs n d within j.0 in
    record {
      page = record {
        rising = subst IsRising (sym is) w.rising;
        framed = framed_from h m (cut_out es first)
            (merged cs first n) cut all;
        four = w.four;
      };
      pairs = is;
      height = height_from h m (merged cs first n) all
          (omega (arith, size)) ∙ sym (mending_height h m at es cs d w);
      lost = omega arith;
      fewer = omega arith;
    }

pub mend_two : (h m at first : ℕ) (es : List Pair) (cs : List PageView) (a b d : PageView) (t : Pair)
    → IsMending h m at es cs → first < length es → (first ≡ at) ⊎ (first + 1 ≡ at) → (get_or cs first d).height ≡ h
    → (get_or cs first d).most ≡ m → Joins (get_or cs first d) (get_or cs (suc first) d) a (Some (t, b))
    → Mends m es cs (take first (cut_out es first) ++ t ∷ drop first (cut_out es first)) (reparted cs first a b)
mend_two h m at first es cs a b d t w p near lh lm j =
    let k : length cs ≡ length es + 1 = cut_length es cs w.cut in
    let within : suc first < length cs = omega arith in
    let left : IsChild h m a =
    subst (λ i. IsChild i m a) lh (subst (λ i. IsChild (get_or cs first d).height i a) lm j.2) in
    let right : IsChild h m b =
    subst (λ i. IsChild i m b) lh (subst (λ i. IsChild (get_or cs first d).height i b) lm j.3) in
    let all = children_insert h m (merged cs first a) (suc first) b
    (merged_children h m first cs a (apart h m at first es cs w within near) within left) right in
    let some : 0 < length b.pairs = omega (arith, right.filled, least_pairs_pos h) in
    let es2 : List Pair = take first (cut_out es first) ++ t ∷ drop first (cut_out es first) in
    let cut : IsCut es2 (reparted cs first a b) = reparted_cut first es cs a b d t w.cut within j.0 j.1 some in
    let more : length (reparted cs first a b) ≡ length es2 + 1 = cut_length _ _ cut in
    let lost : length (cut_out es first) + 1 ≡ length es = omega (
      arith,
      length-append (take first es) (drop (suc first) es),
      length-take first es,
      length-drop (suc first)
          es,
    ) in
    let size : length es2 ≡ length (cut_out es first) + 1 = omega (
      arith,
      length-append (take first (cut_out es first)) (t ∷ drop first (cut_out es first)),
      length-take first
          (cut_out es first),
      length-drop first (cut_out es first),
    ) in
    let is : pairs_of es2 (reparted cs first a b) ≡ pairs_of_pages cs =
    pairs_from es2 (reparted cs first a b) (omega arith) ∙ reparted_pairs first cs a b d within j.0 in
    record {
      page = record {
        rising = subst IsRising (sym is) w.rising;
        framed = framed_from h m es2
            (reparted cs first a b) cut all;
        four = w.four;
      };
      pairs = is;
      height = height_from h m (reparted cs first a b)
          all (omega arith) ∙ sym (mending_height h m at es cs d w);
      lost = omega arith;
      fewer = omega arith;
    }

-- the two pages as the code has them: the right one taken out of the list, the left one still there
pub record IsHere (h m : ℕ) (cs : List PageView) (first : ℕ) (rest : List PageView) (l r : PageView) (s : Pair)
    (d : PageView) : Type 0 where
  pub two : AreTwo h m l r s
  pub l_is : l ≡ get_or cs first d
  pub r_is : r ≡ get_or cs (suc first) d
  pub rest_is : rest ≡ take (suc first) cs ++ drop (suc (suc first)) cs

pub here : (h m at first : ℕ) (es : List Pair) (cs rest : List PageView) (d l r : PageView) (s : Pair)
    → IsMending h m at es cs → (get_or cs at d).count < m / 2 → first < length es → (first ≡ at) ⊎ (first + 1 ≡ at)
    → rest ≡ take (first + 1) cs ++ drop (suc (first + 1)) cs → l ≡ get_or rest first l → r ≡ get_or cs (first + 1) r
    → s ≡ get_or es first s → IsHere h m cs first rest l r s d
here h m at first es cs rest d l r s w short p near e lg rg sg =
    let k : length cs ≡ length es + 1 = cut_length es cs w.cut in
    let l_is : l ≡ get_or cs first d = lg ∙ ap (λ (q : List PageView). get_or q first l) e
    ∙ get_or-remove_below cs (first + 1) l first (omega arith) (omega arith)
    ∙ get_or_default cs first l d (omega arith) in
    let r_is : r ≡ get_or cs (suc first) d =
    rg ∙ ap (λ i. get_or cs i r) (add-one first) ∙ get_or_default cs (suc first) r d (omega arith) in
    let t = are_two h m at first es cs d s w short p near in
    let u : AreTwo h m l (get_or cs (suc first) d) (get_or es first s) =
    subst (λ (v : PageView). AreTwo h m v (get_or cs (suc first) d) (get_or es first s)) (sym l_is) t in
    let v : AreTwo h m l r (get_or es first s) =
    subst (λ (v : PageView). AreTwo h m l v (get_or es first s)) (sym r_is) u in
    record {
      two = subst (AreTwo h m l r) (sym sg) v;
      l_is = l_is;
      r_is = r_is;
      rest_is = e
          ∙ ap (λ i. take i cs ++ drop (suc i) cs) (add-one first);
    }

pub here_one : (h m at first : ℕ) (es es2 : List Pair) (cs rest : List PageView) (d l r n : PageView) (s : Pair)
    → IsMending h m at es cs → first < length es → (first ≡ at) ⊎ (first + 1 ≡ at) → IsHere h m cs first rest l r s d
    → es2 ≡ take first es ++ drop (suc first) es → Joins l r n None → Mends m es cs es2 (set rest first n)
here_one h m at first es es2 cs rest d l r n s w p near q e j =
    let lh : (get_or cs first d).height ≡ h = subst (λ (v : PageView). v.height ≡ h) q.l_is q.two.l_height in
    let lm : (get_or cs first d).most ≡ m = subst (λ (v : PageView). v.most ≡ m) q.l_is q.two.l_most in
    let joins : Joins (get_or cs first d) (get_or cs (suc first) d) n None = subst
    (λ (v : PageView). Joins v (get_or cs (suc first) d) n None) q.l_is
    (subst (λ (v : PageView). Joins l v n None) q.r_is j) in
    rw (e, q.rest_is) (mend_one h m at first es cs n d w p near lh lm joins)

pub here_two : (h m at first : ℕ) (es es2 es3 : List Pair) (cs rest cs3 : List PageView) (d l r a b : PageView)
    (s t : Pair) → IsMending h m at es cs → first < length es → (first ≡ at) ⊎ (first + 1 ≡ at)
    → IsHere h m cs first rest l r s d → es2 ≡ take first es ++ drop (suc first) es
    → es3 ≡ take first es2 ++ t ∷ drop first es2 → cs3 ≡ take (first + 1) (set rest first a) ++ b ∷ drop (first + 1)
    (set rest first a) → Joins l r a (Some (t, b)) → Mends m es cs es3 cs3
here_two h m at first es es2 es3 cs rest cs3 d l r a b s t w p near q e f g j =
    let lh : (get_or cs first d).height ≡ h = subst (λ (v : PageView). v.height ≡ h) q.l_is q.two.l_height in
    let lm : (get_or cs first d).most ≡ m = subst (λ (v : PageView). v.most ≡ m) q.l_is q.two.l_most in
    let joins : Joins (get_or cs first d) (get_or cs (suc first) d) a (Some (t, b)) = subst
    (λ (v : PageView). Joins v (get_or cs (suc first) d) a (Some (t, b))) q.l_is
    (subst (λ (v : PageView). Joins l v a (Some (t, b))) q.r_is j) in
    let es_is : es3 ≡ take first (cut_out es first) ++ t ∷ drop first (cut_out es first) =
    f ∙ ap (λ (m : List Pair). take first m ++ t ∷ drop first m) e in
    let cs_is : cs3 ≡ reparted cs first a b = g ∙ ap (λ i. take i (set rest first a) ++ b ∷ drop i (set rest first a))
    (add-one first) ∙ ap (λ (m : List PageView). take (suc first) (set m first a) ++ b ∷ drop (suc first)
    (set m first a)) q.rest_is in
    rw (es_is, cs_is) (mend_two h m at first es cs a b d t w p near lh lm joins)
