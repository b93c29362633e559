-- A list of as many pairs as rows, each of which is a row's, lists the rows.
use Rattle.std.proofs.Common.{◌≡◌, ℕ, zero, suc, ◌+◌, ◌<◌, ◌≤◌, true, ◌↔◌, ◌⊎◌, inl, inr, List, []}
use Rattle.std.proofs.Common.{◌∷◌, length, get_or, refl, sym, ap, ◌∙◌, subst, arith}
use Rattle.std.specs.List.{Contains}
use Rattle.std.proofs.lemmas.Bool.{false≢true}
use Rattle.dbf_file.specs.Rows.{Row, row_at}
use Rattle.key_lists.specs.Laws.{OrdersPairs}
use Rattle.key_lists.specs.Order.{Each, IsAscending, IsStrictOrder}
use Rattle.key_lists.specs.Pairs.{Pair, is_before}
use Rattle.row_keys.specs.Lists.{index_list, row_pair, IsIndexList}
use Rattle.shape.specs.declared.parts.KeyPart.{KeyPart}
use Rattle.shape.specs.Keys.{key_of}

in_cons_at : (x : Pair) (xs : List Pair) (p : Pair) (k : ℕ) → k < length (x ∷ xs) → get_or (x ∷ xs) k p ≡ p
    → (p ≡ x) ⊎ Contains xs p
in_cons_at x xs p zero lt e = inl (sym e)
in_cons_at x xs p (suc k) lt e = inr (k, omega arith, e)

in_cons : (x : Pair) (xs : List Pair) (p : Pair) → Contains (x ∷ xs) p → (p ≡ x) ⊎ Contains xs p
in_cons x xs p c = in_cons_at x xs p c.0 c.1 c.2

each_at : (P : Pair → Type 0) (xs : List Pair) → Each P xs → (k : ℕ) (p : Pair) → k < length xs → get_or xs k p ≡ p
    → P p
each_at P [] h k p lt e = absurd (omega arith)
each_at P (x ∷ xs) h zero p lt e = subst P e h.0
each_at P (x ∷ xs) h (suc k) p lt e = each_at P xs h.1 k p (omega arith) e

each_in : (P : Pair → Type 0) (xs : List Pair) → Each P xs → (p : Pair) → Contains xs p → P p
each_in P xs h p c = each_at P xs h c.0 p c.1 c.2

module _ (strict : IsStrictOrder is_before) where
  never : (x y : Pair) → is_before x y ≡ true → is_before y x ≡ true → ⊥
  never x y e f = false≢true (sym (strict.irrefl x) ∙ strict.trans x y x e f)

  -- what comes after a pair of the list isn't its first
  later_one : (x : Pair) (xs : List Pair) (y z : Pair) → Each (λ w. is_before x w ≡ true) xs → Contains (x ∷ xs) y
      → is_before y z ≡ true → Contains (x ∷ xs) z → Contains xs z
  later_one x xs y z h there less c = elim (in_cons x xs z c) as (λ _. Contains xs z) [
    | inl e ↦ absurd (elim (in_cons x xs y there) as (λ _. ⊥) [
      | inl f ↦ never y z less (subst (λ (w : Pair). is_before w y ≡ true) (sym e)
          (subst (λ (w : Pair). is_before w y ≡ true) f (subst (λ (w : Pair). is_before y w ≡ true) (e ∙ sym f) less)))
      | inr f ↦ never y z less (subst (λ (w : Pair). is_before w y ≡ true) (sym e)
          (each_in (λ w. is_before x w ≡ true) xs h y f))
    ])
    | inr e ↦ e
  ]

  later : (x : Pair) (xs : List Pair) (y : Pair) (zs : List Pair) → Each (λ w. is_before x w ≡ true) xs
      → Contains (x ∷ xs) y → Each (λ z. is_before y z ≡ true) zs → Each (Contains (x ∷ xs)) zs → Each (Contains xs) zs
  later x xs y [] h there less c = tt
  later x xs y (z ∷ zs) h there less c = (later_one x xs y z h there less.0 c.0, later x xs y zs h there less.1 c.1)

  -- a list in order has room for another whose pairs it has
  no_longer : (xs ys : List Pair) → IsAscending is_before xs → IsAscending is_before ys → Each (Contains xs) ys
      → length ys ≤ length xs
  no_longer xs [] hx hy c = omega arith
  no_longer [] (y ∷ ys) hx hy c = absurd (omega (arith, c.0.1))
  no_longer (x ∷ xs) (y ∷ ys) hx hy c = omega (arith, no_longer xs ys hx.1 hy.1 (later x xs y ys hx.0 c.0 hy.0 c.1))

  -- and is that list where it is no longer
  pub same_lists : (xs ys : List Pair) → IsAscending is_before xs → IsAscending is_before ys → Each (Contains xs) ys
      → length xs ≤ length ys → xs ≡ ys
  same_lists [] [] hx hy c le = refl
  same_lists [] (y ∷ ys) hx hy c le = absurd (omega (arith, c.0.1))
  same_lists (x ∷ xs) [] hx hy c le = absurd (omega arith)
  same_lists (x ∷ xs) (y ∷ ys) hx hy c le =
      let inside : Each (Contains xs) ys = later x xs y ys hx.0 c.0 hy.0 c.1 in
      let rest : xs ≡ ys = same_lists xs ys hx.1 hy.1 inside (omega arith) in
      let here : x ≡ y = elim (in_cons x xs y c.0) as (λ _. x ≡ y) [
        | inl e ↦ sym e
        | inr e ↦ absurd (omega (arith, no_longer xs (y ∷ ys) hx.1 hy (e, inside)))
      ] in
      ap (λ z. z ∷ xs) here ∙ ap (λ zs. y ∷ zs) rest

-- a list of as many pairs as rows, all of them pairs of rows, lists the rows
pub lists_all : OrdersPairs → (parts : List KeyPart) (rows : List Row) (pairs : List Pair) → IsIndexList parts rows
    → IsAscending is_before pairs → length pairs ≡ length rows → Each (Contains (index_list parts rows)) pairs
    → pairs ≡ index_list parts rows
lists_all orders parts rows pairs law ordered count each = sym
    (same_lists orders.strict (index_list parts rows) pairs law.ordered ordered each (omega (arith, count, law.count)))

-- ---- one pair

-- a pair with the number of a row is one of the index where it has that row's key
pub is_pair_of : (parts : List KeyPart) (rows : List Row) (p : Pair) (r : ℕ) → IsIndexList parts rows → r < length rows
    → p.1 ≡ r + 1 → (p.0 ≡ key_of parts (row_at rows r).texts) ↔ Contains (index_list parts rows) p
unfolding row_pair
is_pair_of parts rows (key, n) r law lt e = (
  (λ f. subst (λ (q : Pair). Contains (index_list parts rows) q)
      (sym (ap (λ (z : List ℕ). (z, n)) f ∙ ap (λ (z : ℕ). (key_of parts (row_at rows r).texts, z)) e))
      (law.listed r lt)),
  (λ c. let w = law.only key n c in
      let same : w.0 ≡ r = omega (arith, e, ap (λ (q : Pair). q.1) w.2) in
      ap (λ (q : Pair). q.0) w.2 ∙ ap (λ (z : ℕ). key_of parts (row_at rows z).texts) same),
)

-- and none with another number is
pub is_no_pair : (parts : List KeyPart) (rows : List Row) (p : Pair) → IsIndexList parts rows
    → (p.1 ≡ 0) ⊎ (length rows < p.1) → Contains (index_list parts rows) p → ⊥
unfolding row_pair
is_no_pair parts rows (key, n) law out c =
    let w = law.only key n c in
    let number : n ≡ w.0 + 1 = ap (λ (q : Pair). q.1) w.2 in
    elim out as (λ _. ⊥) [ inl e ↦ omega (arith, e, number) | inr lt ↦ omega (arith, lt, number, w.1) ]

pub iff_trans : {A B C : Type 0} → (A ↔ B) → (B ↔ C) → A ↔ C
iff_trans f g = (λ a. g.0 (f.0 a), λ c. f.1 (g.1 c))
