-- The height of a tree.
use Rattle.std.proofs.Common.{◌≡◌, true, List, ◌++◌, Some, None, length, length-append, ap, sym, subst, ◌∙◌, lit≤, ℕ}
use Rattle.std.proofs.Common.{zero, suc, add-one, ◌+◌, ◌*◌, ◌^◌, ◌<◌, ◌≤◌, ⊎_elim, arith, refl}
use Rattle.std.proofs.lemmas.Bool.{cases_lt}
use Rattle.key_lists.specs.Pairs.{Pair, is_before}
use Rattle.key_lists.specs.Rising.{IsRising, IsAbsent, with_pair, without_pair}
use Rattle.ndx_tree.specs.Pages.{PageView, least_root, least_pairs, IsChild, Inserts, Removes}
use Rattle.ndx_tree.specs.Trees.{IsRoot, IsTree}
use Rattle.std.specs.List.{Contains}
use Rattle.std.specs.Vec.{vec_len}
use Rattle.std.proofs.Common.{false, cond, [], ◌∷◌, ◌-◌, ◌||◌}
use Rattle.std.proofs.lemmas.Bool.{false≢true, or_left, or_right}
use Rattle.std.proofs.Math.Nat.{le-div_iff_mul-le, div-le_self}
use Rattle.ndx_page.specs.Layout.{entry_size, most_entries}
use Rattle.key_lists.specs.Order.{without}
use Rattle.key_lists.specs.Rising.{has}
use Rattle.key_lists.specs.KeyForm.{KeyForm, IsKeyList, IsPairOf}
use Rattle.ndx_tree.specs.Blanks.{IsPool}
use Rattle.ndx_tree.specs.declared.page.SparePages.{SparePages}
use Rattle.key_lists.proofs.Ordered.{Each-map, absent-Each, filter-all, differs, without-absent}
use Rattle.key_lists.proofs.PairOrder.{is_before_strict}
use Rattle.key_lists.proofs.Members.{Contains-here, Contains-later}
use Rattle.key_lists.proofs.Sound.{IsKeyList-inserted, IsKeyList-without}
use Rattle.ndx_tree.proofs.Divide.{least_root_pairs}
use Rattle.key_lists.proofs.Rises.{rising_with_pair, length-with_pair}
use Rattle.ndx_tree.proofs.Remove.{rising_without}

least_pairs_step : (h : ℕ) → least_pairs h ≤ least_pairs (suc h)
unfolding least_pairs
least_pairs_step zero = omega arith
least_pairs_step (suc h) = omega arith

least_pairs_mono : (a b : ℕ) → a ≤ b → least_pairs a ≤ least_pairs b
least_pairs_mono a zero p = let e : a ≡ 0 = omega arith in rw e (omega arith)
least_pairs_mono a (suc b) p =
    ⊎_elim (λ q. let i : least_pairs a ≤ least_pairs b = least_pairs_mono a b (omega arith) in omega
    (arith, least_pairs_step b)) (λ q. let e : a ≡ suc b = omega arith in rw e (omega arith)) (cases_lt a (suc b))

least_pairs_20 : 2 ^ 32 ≤ 2 * least_pairs 20
unfolding least_pairs
least_pairs_20 = lit≤ tt

pub root_low : (h n : ℕ) → least_root h ≤ n → n < 2 ^ 32 → h ≤ 20
unfolding least_root
root_low zero n p q = omega arith
root_low (suc zero) n p q = omega arith
root_low (suc (suc h)) n p q =
    ⊎_elim (λ r. let i : least_pairs 20 ≤ least_pairs (suc h) = least_pairs_mono 20 (suc h) (omega arith) in absurd
    (omega (arith, least_pairs_20))) (λ r. r) (cases_lt 20 (suc (suc h)))

-- two children of one height are enough for a root
pub root_raised : (h a b : ℕ) → least_pairs h ≤ a → least_pairs h ≤ b → least_root (h + 1) ≤ a + b
unfolding least_root
root_raised zero a b p q = omega arith
root_raised (suc h) a b p q = rw add-one (omega arith)

pub root_kept : (root new : PageView) (x : Pair) → IsRoot root → IsAbsent x root.pairs → Inserts root x new None
    → IsRoot new
root_kept root new x r a i = record {
  rising = subst IsRising (sym i.0) (rising_with_pair x root.pairs r.rising a);
  tall = subst (λ h. least_root h ≤ length new.pairs) (sym i.1)
      (omega (arith, r.tall, ap (λ (m : List Pair). length m) i.0, length-with_pair x root.pairs));
  inner = λ h. omega (arith, r.inner (omega (arith, i.1)), i.3);
}

pub split_rising : (root left right : PageView) (s x : Pair) → IsRoot root → IsAbsent x root.pairs
    → Inserts root x left (Some (s, right)) → IsRising (left.pairs ++ right.pairs)
split_rising root left right s x r a i = subst IsRising (sym i.0) (rising_with_pair x root.pairs r.rising a)

pub root_grown : (root left right top : PageView) (s x : Pair) → IsRoot root → IsAbsent x root.pairs
    → Inserts root x left (Some (s, right)) → top.pairs ≡ left.pairs ++ right.pairs → top.height ≡ left.height + 1
    → top.count ≡ 1 → IsRoot top
root_grown root left right top s x r a i p h n = record {
  rising = subst IsRising (sym p) (split_rising root left right s x r a i);
  tall = subst (λ k. least_root k ≤ length top.pairs) (sym (h ∙ ap (λ k. k + 1) i.2.level))
      (subst (λ (m : List Pair). least_root (root.height + 1) ≤ length m) (sym p)
      (subst (λ k. least_root (root.height + 1) ≤ k) (sym (length-append left.pairs right.pairs))
      (root_raised root.height _ _ i.2.filled i.3.filled)));
  inner = λ _. omega arith;
}

-- the root after x was taken out
pub root_lost : (root new : PageView) (x : Pair) → IsRoot root → Removes root x new true
    → (1 < new.height → 0 < new.count) → IsRoot new
root_lost root new x r q n =
    record { rising = subst IsRising (sym q.1) (rising_without x root.pairs r.rising); tall = q.6.tall n; inner = n }

-- ---- a whole tree

pub most_low : (k : ℕ) → k ≤ 100 → 4 ≤ most_entries k
unfolding most_entries
most_low k short = let size : entry_size k ≤ 108 = omega arith in let some : 0
    < entry_size k = omega arith in (le-div_iff_mul-le {k = entry_size k} {x = 4} {y = 504} some).1
    (omega (arith, size))

pub most_high : (k : ℕ) → most_entries k ≤ 504
unfolding most_entries
most_high k = div-le_self 504 (entry_size k)

pub tree_low : (form : KeyForm) (root : PageView) (pool : SparePages) (n : ℕ) → IsTree form root pool n
    → root.height ≤ 20
tree_low form root pool n t = root_low root.height (length root.pairs) t.top.tall (omega (arith, t.few))

pub tree_most : (form : KeyForm) (root : PageView) (pool : SparePages) (n : ℕ) → IsTree form root pool n
    → (4 ≤ root.most) × (root.most ≤ 504)
tree_most form root pool n t = (
  omega (arith, t.most, most_low form.key_length t.list.key_length.1),
  omega
      (arith, t.most, most_high form.key_length),
)

-- a root that took a pair
pub tree_kept : (form : KeyForm) (root new : PageView) (pool pool2 : SparePages) (n m : ℕ) (x : Pair)
    → IsTree form root pool n → 0 < n → m ≡ n - 1 → IsPairOf form.key_length x → IsAbsent x root.pairs
    → Inserts root x new None → IsPool root.most pool2 → IsTree form new pool2 m
tree_kept form root new pool pool2 n m x t some e fits a i p = record {
  list = subst (IsKeyList form) (sym i.0)
      (IsKeyList-inserted form x root.pairs fits (absent-Each root.pairs x a) t.list);
  text = t.text;
  top = root_kept root new x t.top a i;
  most = i.2 ∙ t.most;
  stock = subst (λ k. IsPool k pool2) (sym i.2) p;
  one = omega (arith, t.one);
  ready = λ q. absurd (omega (arith, t.one));
  few = omega (arith, t.few, ap (λ (l : List Pair). length l) i.0, length-with_pair x root.pairs);
}

-- a root that was split under a new one
pub tree_grown : (form : KeyForm) (root left right top : PageView) (pool pool2 : SparePages) (n m : ℕ) (s x : Pair)
    → IsTree form root pool n → 0 < n → m ≡ n - 1 → IsPairOf form.key_length x → IsAbsent x root.pairs
    → Inserts root x left (Some (s, right)) → top.pairs ≡ left.pairs ++ right.pairs → top.height ≡ left.height + 1
    → top.most ≡ left.most → top.count ≡ 1 → IsPool left.most pool2 → IsTree form top pool2 m
tree_grown form root left right top pool pool2 n m s x t some e fits a i pairs height most count p =
    let whole : top.pairs ≡ with_pair x root.pairs = pairs ∙ i.0 in
    record {
      list = subst (IsKeyList form) (sym whole)
          (IsKeyList-inserted form x root.pairs fits (absent-Each root.pairs x a) t.list);
      text = t.text;
      top = root_grown root left right top s x t.top a i pairs height count;
      most = most ∙ i.2.same_most ∙ t.most;
      stock = subst (λ k. IsPool k pool2) (sym most) p;
      one = omega (arith, t.one);
      ready = λ q. absurd (omega (arith, t.one));
      few = omega (arith, t.few, ap (λ (l : List Pair). length l) whole, length-with_pair x root.pairs);
    }

-- rising pairs but one

pub has_yes : (x : Pair) (l : List Pair) → has x l ≡ true → Contains l x
has_yes x [] e = absurd (false≢true e)
has_yes x (y ∷ l) e =
    (elim (is_before y x) as (λ b. is_before y x ≡ b → cond b (has x l) (cond (is_before x y) false true) ≡ true
    → Contains (y ∷ l) x) [
      | true ↦ λ p q. Contains-later y l x (has_yes x l q)
      | false ↦ λ p. (elim (is_before x y) as (λ b. is_before x y ≡ b → cond b false true ≡ true → Contains (y ∷ l) x) [
        | true ↦ λ r q. absurd (false≢true q)
        | false ↦ λ r q. Contains-here y l x (is_before_strict.total x y r p)
      ]) refl
    ]) refl e

pub has_no : (x : Pair) (l : List Pair) → IsRising l → has x l ≡ false → IsAbsent x l
has_no x [] r e = tt
has_no x (y ∷ l) r e =
    (elim (is_before y x) as (λ b. is_before y x ≡ b → cond b (has x l) (cond (is_before x y) false true) ≡ false
    → IsAbsent x (y ∷ l)) [
      | true ↦ λ p q. (differs is_before is_before_strict x y p, has_no x l r.1 q)
      | false ↦ λ p. (elim (is_before x y) as
          (λ b. is_before x y ≡ b → cond b false true ≡ false → IsAbsent x (y ∷ l)) [
            | true ↦ λ s q. (
              later y s,
              Each-map (λ z. is_before y z ≡ true) (λ z. z ≡ x → ⊥)
                  (λ z f. later z (is_before_strict.trans x y z s f)) l r.0,
            )
            | false ↦ λ s q. absurd (false≢true (sym q))
          ]) refl
    ]) refl e
  where
    later : (z : Pair) → is_before x z ≡ true → z ≡ x → ⊥
    later z p e = false≢true (sym (is_before_strict.irrefl x) ∙ subst (λ v. is_before x v ≡ true) e p)

pub without_is : (x : Pair) (l : List Pair) → IsRising l → without_pair x l ≡ without is_before x l
without_is x [] r = refl
without_is x (y ∷ l) r =
    (elim (is_before y x) as (λ b. is_before y x ≡ b → cond b (y ∷ without_pair x l) (cond (is_before x y) (y ∷ l) l)
    ≡ without is_before x (y ∷ l)) [
      | true ↦ λ p. let q : (is_before x y || is_before y x) ≡ true =
          or_right _ _ p in rw q (ap (λ (m : List Pair). y ∷ m) (without_is x l r.1))
      | false ↦ λ p. (elim (is_before x y) as
          (λ b. is_before x y ≡ b → cond b (y ∷ l) l ≡ without is_before x (y ∷ l)) [
            | true ↦ λ s. rw s
                (ap (λ (m : List Pair). y ∷ m)
                (sym (filter-all (λ z. is_before x z || is_before z x) l
                (Each-map (λ z. is_before y z ≡ true) (λ z. (is_before x z || is_before z x) ≡ true)
                (λ z f. or_left _ _ (is_before_strict.trans x y z s f)) l r.0))))
            | false ↦ λ s. let e : x ≡ y = is_before_strict.total x y s p in rw (s, p)
                (sym (filter-all (λ z. is_before x z || is_before z x) l
                (Each-map (λ z. is_before y z ≡ true) (λ z. (is_before x z || is_before z x) ≡ true)
                (λ z f. or_left _ _ (ap (λ v. is_before v z) e ∙ f)) l r.0)))
          ]) refl
    ]) refl

length-without_pair : (x : Pair) (l : List Pair) → has x l ≡ true → length (without_pair x l) + 1 ≡ length l
length-without_pair x [] e = absurd (false≢true e)
length-without_pair x (y ∷ l) e =
    (elim (is_before y x) as (λ b. cond b (has x l) (cond (is_before x y) false true) ≡ true
    → length (cond b (y ∷ without_pair x l) (cond (is_before x y) (y ∷ l) l)) + 1 ≡ length (y ∷ l)) [
      | true ↦ λ q. omega (arith, length-without_pair x l q)
      | false ↦ (elim (is_before x y) as
          (λ b. cond b false true ≡ true → length (cond b (y ∷ l) l) + 1 ≡ length (y ∷ l)) [
            | true ↦ λ q. absurd (false≢true q)
            | false ↦ λ q. omega arith
          ])
    ]) e

-- what a removal from the root says of the list
pub record IsOut (form : KeyForm) (root new : PageView) (x : Pair) : Type 0 where
  pub there : Contains root.pairs x
  pub pairs : new.pairs ≡ without is_before x root.pairs
  pub list : IsKeyList form new.pairs
  pub shorter : length new.pairs + 1 ≡ length root.pairs

pub is_out : (form : KeyForm) (root new : PageView) (pool : SparePages) (n : ℕ) (x : Pair) → IsTree form root pool n
    → Removes root x new true → IsOut form root new x
is_out form root new pool n x t r =
    let e : new.pairs ≡ without is_before x root.pairs = r.1 ∙ without_is x root.pairs t.top.rising in
    record {
      there = has_yes x root.pairs r.0;
      pairs = e;
      list = subst (IsKeyList form) (sym e) (IsKeyList-without form x root.pairs t.list);
      shorter = ap (λ (l : List Pair). length l + 1) r.1 ∙ length-without_pair x root.pairs r.0;
    }

-- and where it finds none
pub is_not_in : (form : KeyForm) (root new : PageView) (pool : SparePages) (n : ℕ) (x : Pair) → IsTree form root pool n
    → Removes root x new false → (Contains root.pairs x → ⊥) × (new.pairs ≡ without is_before x root.pairs)
is_not_in form root new pool n x t r =
    let a = has_no x root.pairs t.top.rising r.0 in (
      absent-Each root.pairs x a,
      ap (λ (v : PageView). v.pairs) r.1
          ∙ sym (without-absent is_before is_before_strict x root.pairs a),
    )

pub tree_lost : (form : KeyForm) (root new : PageView) (pool : SparePages) (n : ℕ) (x : Pair) → IsTree form root pool n
    → Removes root x new true → (1 < new.height → 0 < new.count) → IsTree form new pool n
tree_lost form root new pool n x t r inner =
    let out = is_out form root new pool n x t r in
    record {
      list = out.list;
      text = t.text;
      top = root_lost root new x t.top r inner;
      most = r.3 ∙ t.most;
      stock = subst (λ k. IsPool k pool) (sym r.3) t.stock;
      one = t.one;
      ready = λ p. ((t.ready p).0, subst (λ h. h ≤ vec_len pool.inner) (sym r.2) (t.ready p).1);
      few = omega (arith, t.few, out.shorter);
    }

pub tree_lowered : (form : KeyForm) (root new low : PageView) (pool : SparePages) (n : ℕ) (x : Pair)
    → IsTree form root pool n → Removes root x new true → low.pairs ≡ new.pairs → new.height ≡ low.height + 1
    → IsChild low.height new.most low → IsTree form low pool n
tree_lowered form root new low pool n x t r pairs height k =
    let out = is_out form root new pool n x t r in
    let most = tree_most form root pool n t in
    record {
      list = subst (IsKeyList form) (sym pairs) out.list;
      text = t.text;
      top = record {
        rising = subst IsRising (sym pairs) out.list.ordered;
        tall = omega (arith, least_root_pairs low.height, k.filled);
        inner = λ _. omega (arith, k.half, k.same_most, r.3, most.0);
      };
      most = k.same_most ∙ r.3 ∙ t.most;
      stock = subst (λ m. IsPool m pool) (sym (k.same_most ∙ r.3)) t.stock;
      one = t.one;
      ready = λ p. ((t.ready p).0, omega (arith, (t.ready p).1, r.2, height));
      few = omega (arith, t.few, out.shorter, ap (λ (l : List Pair). length l) pairs);
    }
