-- A page loses an entry.
use Rattle.std.proofs.Common.{◌≡◌, ℕ, zero, suc, true, false, Some, ◌+◌, ◌<◌, ◌≤◌, List, [], ◌∷◌, ◌++◌, length, take}
use Rattle.std.proofs.Common.{drop, set, get_or, refl, ap, sym, ◌∙◌, subst, arith, length-append, length-set}
use Rattle.std.proofs.lemmas.List.{get_or-set_same, set-get_or}
use Rattle.std.proofs.lemmas.List.Edits.{length-remove}
use Rattle.std.proofs.Math.Nat.{mul-le-mul_left}
use Rattle.key_lists.specs.Pairs.{Pair, is_before}
use Rattle.key_lists.specs.Rising.{IsRising, last_of, has, without_pair, place_of}
use Rattle.ndx_tree.specs.Pages.{PageView, pairs_of_pages, height_of, view_of, IsCut, IsChild, AreChildren}
use Rattle.ndx_tree.specs.Pages.{IsFramedPage, IsWell, IsLight, Removes, IsMending, Mends, least_pairs, least_root}
use Rattle.ndx_tree.proofs.Cut.{cut_length, pairs_from, cut_from}
use Rattle.ndx_tree.proofs.Divide.{least_root_one, least_root_two, joined_length, least_pairs_one, least_pairs_pos}
use Rattle.ndx_tree.proofs.Divide.{filled_from}
use Rattle.ndx_tree.proofs.Take.{placed_child}
use Rattle.ndx_tree.proofs.Remove.{has_at_place, remove_at_place, rising_without, has_in_child, shrunk_pairs, cut_set}
use Rattle.ndx_tree.proofs.Remove.{but_set, cut_set_same, last_without}
use Rattle.ndx_tree.proofs.Mend.{cut_at}

tall_inner : (h m : ℕ) (cs : List PageView) → AreChildren h m cs → 2 ≤ length cs → 0 < h
    → least_root (h + 1) ≤ length (pairs_of_pages cs)
tall_inner h m cs a n p = omega (arith, least_root_two h p, joined_length h m cs a, mul-le-mul_left (least_pairs h) n)

pub well_of : (most : ℕ) (es : List Pair) (cs : List PageView) → IsFramedPage most es cs → IsWell (view_of most es cs)
well_of most es [] p = record {
  filled = λ k. omega (arith, least_pairs_one, p.four);
  some = λ k. k;
  tall = λ _. omega
      (arith, least_root_one);
}
well_of most es (c ∷ cs) p =
    let n : length (c ∷ cs) ≡ length es + 1 = cut_length es (c ∷ cs) p.framed.0 in
    record {
      filled = λ k. filled_from c.height most (c ∷ cs) p.framed.1 (omega (arith, p.four));
      some = λ _. omega
          (arith, p.framed.1.0.filled, least_pairs_pos c.height, length-append c.pairs (pairs_of_pages cs));
      tall =
          λ k. tall_inner c.height most (c ∷ cs) p.framed.1 (omega (arith, p.framed.1.0.high, k)) p.framed.1.0.high;
    }

pub leaf_loses : (now : PageView) (most : ℕ) (es es2 : List Pair) (cs : List PageView) (x d : Pair) (at : ℕ)
    → view_of most es cs ≡ now → IsFramedPage most es cs → cs ≡ [] → at ≡ place_of x es → at < length es
    → is_before x (get_or es at d) ≡ false → es2 ≡ take at es ++ drop (suc at) es
    → IsFramedPage most es2 cs × Removes now x (view_of most es2 cs) true
leaf_loses now most es es2 (c ∷ cs) x d at e p n g l b f =
    absurd (omega (arith, ap (λ (m : List PageView). length m) n))
leaf_loses now most es es2 [] x d at e p n g l b f =
    let within : place_of x es < length es = subst (λ i. i < length es) g l in
    let there : is_before x (get_or es (place_of x es) d) ≡ false =
    subst (λ i. is_before x (get_or es i d) ≡ false) g b in
    let had : has x es ≡ true = has_at_place x es d within ∙ rw there refl in
    let is : es2 ≡ without_pair x es = f ∙ ap (λ i. take i es ++ drop (suc i) es) g ∙ remove_at_place x es had in
    let size : length es2 + 1 ≡ length es = ap (λ (m : List Pair). length m + 1) f ∙ length-remove es at l in
    let page : IsFramedPage most es2 [] =
    record { rising = subst IsRising (sym is) (rising_without x es p.rising); framed = tt; four = p.four } in (
      page,
      subst (λ (v : PageView). Removes v x (view_of most es2 []) true) e
          (had, is, refl, refl, omega arith, omega arith, well_of most es2 [] page),
    )

-- the child at x's place, before x is taken out of it
pub losing_child : (most : ℕ) (es : List Pair) (cs : List PageView) (x : Pair) (at : ℕ) (old : PageView)
    → IsFramedPage most es cs → 0 < length cs → at ≡ place_of x es → old ≡ get_or cs at old
    → (at < length cs) × (at ≤ length es) × (height_of cs ≡ old.height + 1) × IsChild old.height most old
losing_child most es cs x at old p n g is =
    let child = placed_child most es cs x at old p n g in
    let one : IsChild child.2.0 most old = subst (IsChild child.2.0 most) (sym is) child.2.2 in (
      child.0,
      omega arith,
      child.2.1 ∙ ap (λ k. k + 1) (sym one.level),
      subst (λ k. IsChild k most old) (sym one.level)
          one,
    )

pub child_keeps : (now : PageView) (most : ℕ) (es : List Pair) (cs : List PageView) (x : Pair) (at : ℕ)
    (old a : PageView) → view_of most es cs ≡ now → IsFramedPage most es cs → 0 < length cs → at ≡ place_of x es
    → old ≡ get_or cs at old → Removes old x a false → (set cs at a ≡ cs) × (has x now.pairs ≡ false)
child_keeps now most es cs x at old a e p n g is r =
    let same : set cs at a ≡ cs = ap (set cs at) (r.1 ∙ is) ∙ set-get_or cs at old in
    let rising : IsRising (pairs_of_pages cs) = subst IsRising (pairs_from es cs n) p.rising in
    let not : has x (pairs_of_pages cs) ≡ false = has_in_child x es cs old (cut_from most es cs p.framed n) rising
    ∙ ap (λ i. has x (get_or cs i old).pairs) (sym g) ∙ ap (λ (v : PageView). has x v.pairs) (sym is) ∙ r.0 in
    (same, ap (λ (v : PageView). has x v.pairs) (sym e) ∙ ap (has x) (pairs_from es cs n) ∙ not)

-- the page after x was taken out of the child at its place
pub record IsLosing (now : PageView) (most : ℕ) (es : List Pair) (cs : List PageView) (x : Pair) (at : ℕ)
    (a : PageView) : Type 0 where
  pub some : (d : PageView) → 0 < length (get_or (set cs at a) at d).pairs
  pub cut : (d : PageView) (t : Pair) → last_of (get_or (set cs at a) at d).pairs ≡ Some t
      → IsCut (set es at t) (set cs at a)
  pub kept : (d : Pair) → at < length es → is_before x (get_or es at d) ≡ true → IsCut es (set cs at a)
  pub mending : (es1 : List Pair) → IsCut es1 (set cs at a) → length es1 ≡ length es
      → (h : ℕ) × IsMending h most at es1 (set cs at a)
  pub done : (es1 es2 : List Pair) (cs2 : List PageView) → length es1 ≡ length es → Mends most es1 (set cs at a) es2 cs2
      → Removes now x (view_of most es2 cs2) true

same_height : (cs : List PageView) (at : ℕ) (a : PageView) (h : ℕ) → (0 < length cs → a.height ≡ h)
    → height_of cs ≡ h + 1 → height_of (set cs at a) ≡ height_of cs
same_height [] at a h q e = refl
same_height (c ∷ cs) zero a h q e = ap (λ k. k + 1) (q (omega arith)) ∙ sym e
same_height (c ∷ cs) (suc at) a h q e = refl

pub child_loses : (now : PageView) (most : ℕ) (es : List Pair) (cs : List PageView) (x : Pair) (at : ℕ)
    (old a : PageView) → view_of most es cs ≡ now → IsFramedPage most es cs → 0 < length cs
    → (1 < now.height → 0 < now.count) → length es ≤ most → at ≡ place_of x es → old ≡ get_or cs at old
    → Removes old x a true → IsLosing now most es cs x at a
child_loses now most es [] x at old a e p n inner full g is r = absurd (omega arith)
child_loses now most es (c ∷ cs) x at old a e p n inner full g is r =
    let child = losing_child most es (c ∷ cs) x at old p n g is in
    let height : now.height ≡ old.height + 1 = sym (ap (λ (v : PageView). v.height) e) ∙ child.2 in
    let count : now.count ≡ length es = sym (ap (λ (v : PageView). v.count) e) in
    let two : 0 < length es = subst (λ k. 0 < k) count (inner (omega (arith, child.3.high))) in
    let cut0 : IsCut es (c ∷ cs) = p.framed.0 in
    let level : old.height ≡ c.height = let q : c.height + 1 ≡ old.height + 1 = child.2 in omega arith in
    let one : IsChild c.height most old = subst (λ k. IsChild k most old) level child.3 in
    let there : (d : PageView) → get_or (set (c ∷ cs) at a) at d ≡ a = λ d. get_or-set_same (c ∷ cs) at a d child.0 in
    let nonempty : 0 < length a.pairs = r.6.some (omega (arith, one.half, p.four, r.4)) in
    let pairs : a.pairs ≡ without_pair x (get_or (c ∷ cs) (place_of x es) old).pairs =
    r.1 ∙ ap (λ (v : PageView). without_pair x v.pairs) (is ∙ ap (λ i. get_or (c ∷ cs) i old) g) in
    let joins : pairs_of_pages (set (c ∷ cs) at a) ≡ without_pair x (pairs_of_pages (c ∷ cs)) =
    ap (λ i. pairs_of_pages (set (c ∷ cs) i a)) g ∙ shrunk_pairs x es (c ∷ cs) a old cut0 p.rising pairs in
    let had : has x (pairs_of_pages (c ∷ cs)) ≡ true = has_in_child x es (c ∷ cs) old cut0 p.rising
    ∙ ap (λ i. has x (get_or (c ∷ cs) i old).pairs) (sym g) ∙ ap (λ (v : PageView). has x v.pairs) (sym is) ∙ r.0 in
    let light : IsLight c.height most a =
    record {
      level = r.2 ∙ one.level;
      same_most = r.3 ∙ one.same_most;
      half = omega (arith, one.half, r.4);
      full =
          omega (arith, one.full, r.5);
      well = r.6;
      high = one.high;
    } in
    let rising : IsRising (pairs_of_pages (set (c ∷ cs) at a)) =
    subst IsRising (sym joins) (rising_without x (pairs_of_pages (c ∷ cs)) p.rising) in
    let size : length (set (c ∷ cs) at a) ≡ length (c ∷ cs) = length-set (c ∷ cs) at a in
    let top : height_of (set (c ∷ cs) at a) ≡ height_of (c ∷ cs) =
    same_height (c ∷ cs) at a c.height (λ q. r.2 ∙ one.level) refl in
    record {
      some = λ d. subst (λ (v : PageView). 0 < length v.pairs) (sym (there d)) nonempty;
      cut = λ d t l. cut_set at es (c ∷ cs) a t cut0 (ap (λ (v : PageView). last_of v.pairs) (sym (there d)) ∙ l);
      kept = λ d l b. cut_set_same at es (c ∷ cs) a d cut0 l (ap last_of r.1
          ∙ last_without x (get_or es at d) old.pairs (ap (λ (v : PageView). last_of v.pairs) is
          ∙ cut_at at es (c ∷ cs) old d cut0 l) b);
      mending = λ es1 q k. (
        c.height,
        record {
          rising = rising;
          cut = q;
          but = but_set c.height most at (c ∷ cs) a
              p.framed.1;
          light = λ d. subst (IsLight c.height most) (sym (there d)) light;
          four = p.four;
          within = omega
              (arith, child.0);
          two = omega arith;
          full = omega arith;
        },
      );
      done = λ es1 es2 cs2 k m. subst (λ (v : PageView). Removes v x (view_of most es2 cs2) true) e (
        had,
        m.pairs ∙ joins,
        m.height ∙ top,
        refl,
        omega (arith, m.lost),
        omega (arith, m.fewer),
        well_of most es2
            cs2 m.page,
      );
    }
