-- Keys of one length in a tree's pages, and the room that they take.
use Rattle.std.proofs.Common.{◌≡◌, ℕ, zero, suc, ◌+◌, ◌*◌, ◌-◌, ◌/◌, ◌<◌, ◌≤◌, Some, List, [], ◌∷◌, ◌++◌, length}
use Rattle.std.proofs.Common.{get_or, take, drop, set, true, false, cond, refl, sym, ap, subst, arith}
use Rattle.std.proofs.Math.Nat.{le_refl, le-div_iff_mul-le, mul-le-mul, mul-le-mul_right}
use Rattle.std.proofs.lemmas.List.{take-append-drop}
use Rattle.std.specs.List.{insert, remove}
use Rattle.ndx_page.specs.Layout.{entry_size, most_entries}
use Rattle.key_lists.specs.Order.{Each}
use Rattle.key_lists.specs.KeyForm.{IsPairOf}
use Rattle.key_lists.specs.Pairs.{Pair, is_before}
use Rattle.key_lists.specs.Rising.{last_of, with_pair, without_pair}
use Rattle.ndx_tree.specs.Pages.{PageView, pairs_of_pages, pairs_of, view_of, IsCut, IsFramedPage, Removes}
use Rattle.key_rows.specs.Flat.{HaveKeys}
use Rattle.ndx_tree.specs.Rooms.{AreKeyed, room_for}
use Rattle.key_lists.proofs.Ordered.{Each-append, Each-inserted, Each-append_left, Each-append_right}

pub last_keyed : (k : ℕ) (l : List Pair) (s : Pair) → HaveKeys k l → last_of l ≡ Some s → length s.0 ≡ k
last_keyed k [] s a e = cc
last_keyed k (y ∷ []) s a e = let same : y ≡ s = cc in subst (λ (p : Pair). length p.0 ≡ k) same a.0
last_keyed k (y ∷ z ∷ l) s a e = last_keyed k (z ∷ l) s a.1 e

pub cut_keyed : (k : ℕ) (es : List Pair) (cs : List PageView) → IsCut es cs → HaveKeys k (pairs_of_pages cs)
    → HaveKeys k es
cut_keyed k [] cs i a = tt
cut_keyed k (s ∷ ss) [] i a = absurd i
cut_keyed k (s ∷ ss) (c ∷ cs) i a = (
  last_keyed k c.pairs s (Each-append_left (λ p. length p.0 ≡ k) c.pairs (pairs_of_pages cs) a) i.0,
  cut_keyed k ss
      cs i.1 (Each-append_right (λ p. length p.0 ≡ k) c.pairs (pairs_of_pages cs) a),
)

pub child_keyed : (k : ℕ) (cs : List PageView) (at : ℕ) (d : PageView) → at < length cs → HaveKeys k (pairs_of_pages cs)
    → HaveKeys k (get_or cs at d).pairs
child_keyed k [] at d l a = absurd (omega arith)
child_keyed k (c ∷ cs) zero d l a = Each-append_left (λ p. length p.0 ≡ k) c.pairs (pairs_of_pages cs) a
child_keyed k (c ∷ cs) (suc at) d l a =
    child_keyed k cs at d (omega arith) (Each-append_right (λ p. length p.0 ≡ k) c.pairs (pairs_of_pages cs) a)

pub entries_keyed : (k most : ℕ) (es : List Pair) (cs : List PageView) → IsFramedPage most es cs
    → HaveKeys k (pairs_of es cs) → HaveKeys k es
entries_keyed k most es [] p a = a
entries_keyed k most es (c ∷ cs) p a = cut_keyed k es (c ∷ cs) p.framed.0 a

-- a separator between two parts of pairs, of which one came in
pub parted_keyed : (k : ℕ) (old left right : List Pair) (x s : Pair) → HaveKeys k old → length x.0 ≡ k
    → left ++ right ≡ with_pair x old → last_of left ≡ Some s → length s.0 ≡ k
parted_keyed k old left right x s a b e last =
    last_keyed k left s (Each-append_left (λ p. length p.0 ≡ k) left right
    (subst (λ (m : List Pair). HaveKeys k m) (sym e) (Each-inserted is_before (λ p. length p.0 ≡ k) x old b a)))
    last

-- so many entries have room in a page, and one more
pub entries_room : (most k n room : ℕ) → 0 < most → (k + 8) * most ≤ 504 → n ≤ most + 1 → room_for most ≤ room
    → n * (k + 4) ≤ room
unfolding room_for
entries_room most k n room some fits few enough =
    let size : k + 8 ≤ 504 / most = (le-div_iff_mul-le {k = most} {x = k + 8} {y = 504} some).1 fits in
    let one : k + 4 ≤ 504 / most - 4 = omega arith in
    omega (arith, mul-le-mul few one, enough)

-- the later entries of a page that is parted
pub later_room : (most k n at room : ℕ) → 0 < most → (k + 8) * most ≤ 504 → n ≤ most + 1 → room_for most ≤ room
    → (n - at) * (k + 4) ≤ room
later_room most k n at room some fits few enough = entries_room most k (n - at) room some fits (omega arith) enough

-- ---- from a page's pairs to its parts

pub page_keyed : (now : PageView) (k most : ℕ) (es : List Pair) (cs : List PageView) → view_of most es cs ≡ now
    → IsFramedPage most es cs → HaveKeys k now.pairs → HaveKeys k es
page_keyed now k most es cs e p a =
    entries_keyed k most es cs p (subst (λ (v : PageView). HaveKeys k v.pairs) (sym e) a)

pub below_keyed : (now : PageView) (k most : ℕ) (es : List Pair) (cs : List PageView) (at : ℕ) (d : PageView)
    → view_of most es cs ≡ now → at < length cs → d ≡ get_or cs at d → HaveKeys k now.pairs → HaveKeys k d.pairs
below_keyed now k most es [] at d e l is a = absurd (omega arith)
below_keyed now k most es (c ∷ cs) at d e l is a =
    subst (λ (v : PageView). HaveKeys k v.pairs) (sym is)
    (child_keyed k (c ∷ cs) at d l (subst (λ (v : PageView). HaveKeys k v.pairs) (sym e) a))

pub all_keyed : (now : PageView) (k most : ℕ) (es : List Pair) (cs : List PageView) → view_of most es cs ≡ now
    → 0 < length cs → HaveKeys k now.pairs → HaveKeys k (pairs_of_pages cs)
all_keyed now k most es [] e l a = absurd (omega arith)
all_keyed now k most es (c ∷ cs) e l a = subst (λ (v : PageView). HaveKeys k v.pairs) (sym e) a

pub most_is : (now : PageView) (most : ℕ) (es : List Pair) (cs : List PageView) → view_of most es cs ≡ now
    → most ≡ now.most
most_is now most es cs e = ap (λ (v : PageView). v.most) e

pub put_keyed : (k : ℕ) (es m : List Pair) (at : ℕ) (s : Pair) → HaveKeys k es → length s.0 ≡ k → m ≡ insert es at s
    → HaveKeys k m
put_keyed k es m at s a b e =
    let parts : HaveKeys k (take at es ++ drop at es) =
    subst (λ (l : List Pair). HaveKeys k l) (sym (take-append-drop at es)) a in
    subst (λ (l : List Pair). HaveKeys k l) (sym e)
    (Each-append (λ p. length p.0 ≡ k) (take at es) (s ∷ drop at es)
    (Each-append_left (λ p. length p.0 ≡ k) (take at es) (drop at es) parts)
    (b, Each-append_right (λ p. length p.0 ≡ k) (take at es) (drop at es) parts))

pub taken_keyed : (k : ℕ) (es m : List Pair) (at : ℕ) → HaveKeys k es → m ≡ remove es at → HaveKeys k m
taken_keyed k es m zero a e = subst (λ (l : List Pair). HaveKeys k l) (sym e)
    (Each-append_right (λ p. length p.0 ≡ k) (take 1 es) (drop 1 es)
    (subst (λ (l : List Pair). HaveKeys k l) (sym (take-append-drop 1 es)) a))
taken_keyed k [] m (suc at) a e = subst (λ (l : List Pair). HaveKeys k l) (sym e) tt
taken_keyed k (y ∷ es) m (suc at) a e =
    subst (λ (l : List Pair). HaveKeys k l) (sym e) (a.0, taken_keyed k es (remove es at) at a.1 refl)

pub without_keyed : (k : ℕ) (x : Pair) (l : List Pair) → HaveKeys k l → HaveKeys k (without_pair x l)
without_keyed k x [] a = tt
without_keyed k x (y ∷ l) a =
    elim (is_before y x) as (λ b. HaveKeys k (cond b (y ∷ without_pair x l) (cond (is_before x y) (y ∷ l) l))) [
      | true ↦ (a.0, without_keyed k x l a.1)
      | false ↦ elim (is_before x y) as (λ b. HaveKeys k (cond b (y ∷ l) l)) [ true ↦ a | false ↦ a.1 ]
    ]

pub set_keyed : (k : ℕ) (cs : List PageView) (at : ℕ) (a : PageView) → HaveKeys k (pairs_of_pages cs)
    → HaveKeys k a.pairs → HaveKeys k (pairs_of_pages (set cs at a))
set_keyed k [] at a h n = tt
set_keyed k (c ∷ cs) zero a h n = Each-append (λ p. length p.0 ≡ k) a.pairs (pairs_of_pages cs) n
    (Each-append_right (λ p. length p.0 ≡ k) c.pairs (pairs_of_pages cs) h)
set_keyed k (c ∷ cs) (suc at) a h n =
    Each-append (λ p. length p.0 ≡ k) c.pairs (pairs_of_pages (set cs at a))
    (Each-append_left (λ p. length p.0 ≡ k) c.pairs (pairs_of_pages cs) h)
    (set_keyed k cs at a (Each-append_right (λ p. length p.0 ≡ k) c.pairs (pairs_of_pages cs) h) n)

-- a page from which a pair was taken, among its neighbours
pub lost_keyed : (k : ℕ) (cs : List PageView) (at : ℕ) (x : Pair) (old new : PageView) → HaveKeys k (pairs_of_pages cs)
    → HaveKeys k old.pairs → Removes old x new true → HaveKeys k (pairs_of_pages (set cs at new))
lost_keyed k cs at x old new h o r =
    set_keyed k cs at new h (subst (λ (l : List Pair). HaveKeys k l) (sym r.1) (without_keyed k x old.pairs o))

-- ---- a whole tree

pub keys_fit : (k : ℕ) → (k + 8) * most_entries k ≤ 504
unfolding most_entries
keys_fit k =
    let some : 0 < entry_size k = omega arith in
    let size : k + 8 ≤ entry_size k = omega arith in
    omega (
      arith,
      (le-div_iff_mul-le {k = entry_size k} {x = 504 / entry_size k} {y = 504} some).0
          (le_refl (504 / entry_size k)),
      mul-le-mul_right (504 / entry_size k) size,
    )

pub pairs_keyed : (k : ℕ) (pairs : List Pair) → Each (IsPairOf k) pairs → HaveKeys k pairs
pairs_keyed k [] a = tt
pairs_keyed k (p ∷ pairs) a = (a.0.0, pairs_keyed k pairs a.1)

pub tree_keyed : (k most : ℕ) (pairs : List Pair) → most ≡ most_entries k → Each (IsPairOf k) pairs
    → AreKeyed most pairs
tree_keyed k most pairs e a =
    record { key_length = k; fits = subst (λ m. (k + 8) * m ≤ 504) (sym e) (keys_fit k); keys = pairs_keyed k pairs a }
