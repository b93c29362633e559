-- Facts on lists in a strict order.
use Rattle.std.proofs.Common.{◌≡◌, ℕ, zero, suc, ◌+◌, ◌<◌, ◌≤◌, inl, inr, Bool, true, false, cond, ◌||◌, Some, List, []}
use Rattle.std.proofs.Common.{◌∷◌, ◌++◌, length, get_or, set, take, drop, reverse, refl, sym, ap, ◌∙◌, subst, arith}
use Rattle.std.proofs.Common.{add-one, length-set}
use Rattle.std.specs.List.{filter, Contains, insert, remove, swap}
use Rattle.std.specs.List.Sorted.{IsPermutation}
use Rattle.std.proofs.lemmas.List.Sorted.{IsPermutation-keeps}
use Rattle.std.proofs.lemmas.List.Edits.{length-remove, get_or-remove_below, get_or-remove_above}
use Rattle.std.proofs.lemmas.Bool.{false≢true, cases_lt}
use Rattle.std.proofs.lemmas.List.{take-append-drop, reverse-append}
use Rattle.std.proofs.lemmas.List.Elements.{filter-append}
use Rattle.key_lists.specs.Order.{IsStrictOrder, flip, Each, IsAscending, inserted, without, in_order, above, below}
use Rattle.key_lists.specs.Order.{first, IsDistinct}

pub Each-map : {X : Type 0} (P Q : X → Type 0) → ((x : X) → P x → Q x) → (xs : List X) → Each P xs → Each Q xs
Each-map P Q f [] e = tt
Each-map P Q f (x ∷ xs) e = (f x e.0, Each-map P Q f xs e.1)

pub Each-take : {X : Type 0} (P : X → Type 0) (xs : List X) (n : ℕ) → ((k : ℕ) (d : X) → k < n → P (get_or xs k d))
    → n ≤ length xs → Each P (take n xs)
Each-take P xs zero h le = tt
Each-take P [] (suc n) h le = absurd (omega arith)
Each-take P (x ∷ xs) (suc n) h le =
    (h 0 x (omega arith), Each-take P xs n (λ k d lt. h (suc k) d (omega arith)) (omega arith))

pub Each-drop : {X : Type 0} (P : X → Type 0) (xs : List X) (n : ℕ)
    → ((k : ℕ) (d : X) → n ≤ k → k < length xs → P (get_or xs k d)) → Each P (drop n xs)
Each-drop P [] zero h = tt
Each-drop P [] (suc n) h = tt
Each-drop P (x ∷ xs) zero h =
    (h 0 x (omega arith) (omega arith), Each-drop P xs zero (λ k d le lt. h (suc k) d (omega arith) (omega arith)))
Each-drop P (x ∷ xs) (suc n) h = Each-drop P xs n (λ k d le lt. h (suc k) d (omega arith) (omega arith))

pub Each-at : {X : Type 0} (P : X → Type 0) (xs : List X) (k : ℕ) (d : X) → Each P xs → k < length xs
    → P (get_or xs k d)
Each-at P [] k d e lt = absurd (omega arith)
Each-at P (x ∷ xs) zero d e lt = e.0
Each-at P (x ∷ xs) (suc k) d e lt = Each-at P xs k d e.1 (omega arith)

pub Each-append : {X : Type 0} (P : X → Type 0) (xs ys : List X) → Each P xs → Each P ys → Each P (xs ++ ys)
Each-append P [] ys e f = f
Each-append P (x ∷ xs) ys e f = (e.0, Each-append P xs ys e.1 f)

pub Each-append_left : {X : Type 0} (P : X → Type 0) (xs ys : List X) → Each P (xs ++ ys) → Each P xs
Each-append_left P [] ys e = tt
Each-append_left P (x ∷ xs) ys e = (e.0, Each-append_left P xs ys e.1)

pub Each-append_right : {X : Type 0} (P : X → Type 0) (xs ys : List X) → Each P (xs ++ ys) → Each P ys
Each-append_right P [] ys e = e
Each-append_right P (x ∷ xs) ys e = Each-append_right P xs ys e.1

pub Each-filter : {X : Type 0} (P : X → Type 0) (p : X → Bool) (xs : List X) → Each P xs → Each P (filter p xs)
Each-filter P p [] e = tt
Each-filter P p (x ∷ xs) e = elim (p x) as
    (λ b. Each P (cond b (x ∷ filter p xs) (filter p xs))) [
      | true ↦ (e.0, Each-filter P p xs e.1)
      | false ↦ Each-filter
          P p xs e.1
    ]

pub Each-reverse : {X : Type 0} (P : X → Type 0) (xs : List X) → Each P xs → Each P (reverse xs)
Each-reverse P [] e = tt
Each-reverse P (x ∷ xs) e =
    rw (reverse-append (x ∷ []) xs) (Each-append P (reverse xs) (x ∷ []) (Each-reverse P xs e.1) (e.0, tt))

-- elements that all pass stay
pub filter-all : {X : Type 0} (p : X → Bool) (xs : List X) → Each (λ x. p x ≡ true) xs → filter p xs ≡ xs
filter-all p [] e = refl
filter-all p (x ∷ xs) e = rw e.0 (ap (λ ys. x ∷ ys) (filter-all p xs e.1))

-- elements that all fail go
pub filter-none : {X : Type 0} (p : X → Bool) (xs : List X) → Each (λ x. p x ≡ false) xs → filter p xs ≡ []
filter-none p [] e = refl
filter-none p (x ∷ xs) e = rw e.0 (filter-none p xs e.1)

-- where what passes stands at the end, or at the front
pub filter-back : {X : Type 0} (p : X → Bool) (xs ys : List X) → Each (λ x. p x ≡ false) xs → Each (λ x. p x ≡ true) ys
    → filter p (xs ++ ys) ≡ ys
filter-back p xs ys e f = rw (filter-append p xs ys, filter-none p xs e, filter-all p ys f)

append_nil : {X : Type 0} (xs : List X) → xs ++ [] ≡ xs
append_nil [] = refl
append_nil (x ∷ xs) = ap (λ ys. x ∷ ys) (append_nil xs)

pub filter-front : {X : Type 0} (p : X → Bool) (xs ys : List X) → Each (λ x. p x ≡ true) xs → Each (λ x. p x ≡ false) ys
    → filter p (xs ++ ys) ≡ xs
filter-front p xs ys e f = rw (filter-append p xs ys, filter-all p xs e, filter-none p ys f) (append_nil xs)

pub filter-reverse : {X : Type 0} (p : X → Bool) (xs : List X) → filter p (reverse xs) ≡ reverse (filter p xs)
filter-reverse p [] = refl
filter-reverse p (x ∷ xs) = ap (filter p) (reverse-append (x ∷ []) xs) ∙ filter-append p (reverse xs) (x ∷ [])
    ∙ elim (p x) as (λ b. filter p (reverse xs) ++ cond b (x ∷ []) []
    ≡ reverse (cond b (x ∷ filter p xs) (filter p xs))) [
      | true ↦ ap (λ ys. ys ++ x ∷ []) (filter-reverse p xs)
          ∙ sym (reverse-append (x ∷ []) (filter p xs))
      | false ↦ append_nil (filter p (reverse xs)) ∙ filter-reverse p xs
    ]

-- a value goes between those before it and those that are not
pub inserted-between : {X : Type 0} (lt : X → X → Bool) (x : X) (xs ys : List X) → Each (λ y. lt y x ≡ true) xs
    → Each (λ y. lt y x ≡ false) ys → inserted lt x (xs ++ ys) ≡ xs ++ x ∷ ys
inserted-between lt x [] [] e f = refl
inserted-between lt x [] (y ∷ ys) e f = rw f.0
inserted-between lt x (z ∷ xs) ys e f = rw e.0 (ap (λ zs. z ∷ zs) (inserted-between lt x xs ys e.1 f))

pub ascending_at : {X : Type 0} (lt : X → X → Bool) (xs : List X) (i j : ℕ) (d : X) → IsAscending lt xs → i < j
    → j < length xs → lt (get_or xs i d) (get_or xs j d) ≡ true
ascending_at lt [] i j d a ij jn = absurd (omega arith)
ascending_at lt (x ∷ xs) i zero d a ij jn = absurd (omega arith)
ascending_at lt (x ∷ xs) zero (suc j) d a ij jn = Each-at (λ y. lt x y ≡ true) xs j d a.0 (omega arith)
ascending_at lt (x ∷ xs) (suc i) (suc j) d a ij jn = ascending_at lt xs i j d a.1 (omega arith) (omega arith)

-- a test that goes down along the order parts the list
pub parted : {X : Type 0} (lt : X → X → Bool) (p : X → Bool) → ((x y : X) → lt x y ≡ true → p y ≡ true → p x ≡ true)
    → (xs : List X) → IsAscending lt xs → (i j : ℕ) (d : X) → i ≤ j → j < length xs → p (get_or xs j d) ≡ true
    → p (get_or xs i d) ≡ true
parted lt p down xs a i j d le within passes =
    elim (cases_lt i j) [
      | inl l ↦ down _ _ (ascending_at lt xs i j d a l within) passes
      | inr g ↦ let e : i
          ≡ j = omega arith in rw e passes
    ]

pub IsAscending-append : {X : Type 0} (lt : X → X → Bool) (xs ys : List X) → IsAscending lt xs → IsAscending lt ys
    → Each (λ x. Each (λ y. lt x y ≡ true) ys) xs → IsAscending lt (xs ++ ys)
IsAscending-append lt [] ys a b e = b
IsAscending-append lt (x ∷ xs) ys a b e =
    (Each-append (λ y. lt x y ≡ true) xs ys a.0 e.0, IsAscending-append lt xs ys a.1 b e.1)

pub IsAscending-filter : {X : Type 0} (lt : X → X → Bool) (p : X → Bool) (xs : List X) → IsAscending lt xs
    → IsAscending lt (filter p xs)
IsAscending-filter lt p [] a = tt
IsAscending-filter lt p (x ∷ xs) a = elim (p x) as
    (λ b. IsAscending lt (cond b (x ∷ filter p xs) (filter p xs))) [
      | true ↦
          (Each-filter (λ y. lt x y ≡ true) p xs a.0, IsAscending-filter lt p xs a.1)
      | false ↦ IsAscending-filter lt p xs a.1
    ]

-- backwards, the list ascends in the order turned round
pub IsAscending-reverse : {X : Type 0} (lt : X → X → Bool) (xs : List X) → IsAscending lt xs
    → IsAscending (flip lt) (reverse xs)
IsAscending-reverse lt [] a = tt
IsAscending-reverse lt (x ∷ xs) a = rw (reverse-append (x ∷ []) xs)
    (IsAscending-append (flip lt) (reverse xs) (x ∷ []) (IsAscending-reverse lt xs a.1) (tt, tt)
    (Each-map (λ y. lt x y ≡ true) (λ y. (lt x y ≡ true) × Unit {0}) (λ y e. (e, tt)) (reverse xs)
    (Each-reverse (λ y. lt x y ≡ true) xs a.0)))

pub flip_strict : {X : Type 0} (lt : X → X → Bool) → IsStrictOrder lt → IsStrictOrder (flip lt)
flip_strict lt o = record {
  irrefl = o.irrefl;
  trans = λ x y z e f. o.trans z y x f e;
  total = λ x y e f. o.total x y f
      e;
}

pub Each-inserted : {X : Type 0} (lt : X → X → Bool) (P : X → Type 0) (x : X) (xs : List X) → P x → Each P xs
    → Each P (inserted lt x xs)
Each-inserted lt P x [] p e = (p, tt)
Each-inserted lt P x (y ∷ ys) p e = elim (lt y x) as
    (λ b. Each P (cond b (y ∷ inserted lt x ys) (x ∷ y ∷ ys))) [
      | true ↦ (e.0, Each-inserted lt P x ys p e.1)
      | false ↦
          (p, e)
    ]

module _ {X : Type 0} (lt : X → X → Bool) (o : IsStrictOrder lt) where
  -- before and after at once is refused
  pub asymm : (x y : X) → lt x y ≡ true → lt y x ≡ false
  asymm x y e = elim (lt y x) as (λ b. lt y x ≡ b → b ≡ false) [
    | true ↦ λ f. absurd
        (false≢true (sym (o.irrefl x) ∙ o.trans x y x e f))
    | false ↦ λ f. refl
  ] refl

  -- a new value keeps the order
  pub IsAscending-inserted : (x : X) (xs : List X) → Each (λ y. y ≡ x → ⊥) xs → IsAscending lt xs
      → IsAscending lt (inserted lt x xs)
  IsAscending-inserted x [] n a = (tt, tt)
  IsAscending-inserted x (y ∷ ys) n a =
      elim (lt y x) as (λ b. lt y x ≡ b → IsAscending lt (cond b (y ∷ inserted lt x ys) (x ∷ y ∷ ys))) [
        | true ↦ λ e. (Each-inserted lt (λ z. lt y z ≡ true) x ys e a.0, IsAscending-inserted x ys n.1 a.1)
        | false ↦ λ e. let xy : lt x y ≡ true = elim (lt x y) as
            (λ b. lt x y ≡ b → b ≡ true) [ true ↦ λ f. refl | false ↦ λ f. absurd (n.0 (o.total y x e f)) ] refl in
            ((xy, Each-map (λ z. lt y z ≡ true) (λ z. lt x z ≡ true) (λ z f. o.trans x y z xy f) ys a.0), a)
      ] refl

  -- a value that is there goes
  pub without-present : (x : X) (xs ys : List X) → Each (λ y. lt y x ≡ true) xs → IsAscending lt (x ∷ ys)
      → without lt x (xs ++ x ∷ ys) ≡ xs ++ ys
  without-present x [] ys e a = rw (o.irrefl x)
      (filter-all (λ y. lt x y || lt y x) ys
      (Each-map (λ y. lt x y ≡ true) (λ y. lt x y || lt y x ≡ true) (λ y f. rw f refl) ys a.0))
  without-present x (z ∷ xs) ys e a = rw (asymm z x e.0, e.0) (ap (λ zs. z ∷ zs) (without-present x xs ys e.1 a))

  -- without a value that is not there, the list is the same
  pub without-absent : (x : X) (xs : List X) → Each (λ y. y ≡ x → ⊥) xs → without lt x xs ≡ xs
  without-absent x xs n =
      filter-all (λ y. lt x y || lt y x) xs (Each-map (λ y. y ≡ x → ⊥) (λ y. lt x y || lt y x ≡ true) (λ y f.
      elim (lt x y) as (λ b. lt x y ≡ b → b || lt y x ≡ true) [
        | true ↦ λ e. refl
        | false ↦ λ e. elim (lt y x) as (λ b. lt y x ≡ b → b ≡ true) [
          | true ↦ λ g. refl
          | false ↦ λ g. absurd
              (f (o.total y x g e))
        ] refl
      ] refl) xs n)

  -- a value before another is not it
  pub differs : (x y : X) → lt y x ≡ true → y ≡ x → ⊥
  differs x y e f = false≢true (sym (o.irrefl x) ∙ subst (λ z. lt z x ≡ true) f e)

pub Each-absent : {X : Type 0} (xs : List X) (x : X) → (Contains xs x → ⊥) → Each (λ y. y ≡ x → ⊥) xs
Each-absent [] x n = tt
Each-absent (y ∷ ys) x n = (λ e. n (0, omega arith, e), Each-absent ys x (λ c. n (suc c.0, omega (arith, c.1), c.2)))

pub absent-Each : {X : Type 0} (xs : List X) (x : X) → Each (λ y. y ≡ x → ⊥) xs → Contains xs x → ⊥
absent-Each xs x e c = Each-at (λ y. y ≡ x → ⊥) xs c.0 x e c.1 c.2

-- the two parts of a list at a place that parts it
pub above-parted : {X : Type 0} (p : X → Bool) (xs : List X) (n : ℕ) → Each (λ y. p y ≡ false) (take n xs)
    → Each (λ y. p y ≡ true) (drop n xs) → filter p xs ≡ drop n xs
above-parted p xs n e f = ap (filter p) (sym (take-append-drop n xs)) ∙ filter-back p (take n xs) (drop n xs) e f

pub below-parted : {X : Type 0} (lt : X → X → Bool) (x : X) (xs : List X) (n : ℕ)
    → Each (λ y. lt y x ≡ true) (take n xs) → Each (λ y. lt y x ≡ false) (drop n xs)
    → below lt x xs ≡ reverse (take n xs)
below-parted lt x xs n e f = filter-reverse (λ y. lt y x) xs ∙ ap reverse
    (ap (filter (λ y. lt y x)) (sym (take-append-drop n xs)) ∙ filter-front (λ y. lt y x) (take n xs) (drop n xs) e f)

pub inserted-parted : {X : Type 0} (lt : X → X → Bool) (x : X) (xs : List X) (n : ℕ)
    → Each (λ y. lt y x ≡ true) (take n xs) → Each (λ y. lt y x ≡ false) (drop n xs) → inserted lt x xs ≡ insert xs n x
inserted-parted lt x xs n e f =
    ap (inserted lt x) (sym (take-append-drop n xs)) ∙ inserted-between lt x (take n xs) (drop n xs) e f

pub IsAscending-right : {X : Type 0} (lt : X → X → Bool) (xs ys : List X) → IsAscending lt (xs ++ ys)
    → IsAscending lt ys
IsAscending-right lt [] ys a = a
IsAscending-right lt (x ∷ xs) ys a = IsAscending-right lt xs ys a.1

cons_drop : {X : Type 0} (xs : List X) (n : ℕ) (d : X) → n < length xs → drop n xs ≡ get_or xs n d ∷ drop (suc n) xs
cons_drop [] n d lt = absurd (omega arith)
cons_drop (x ∷ xs) zero d lt = refl
cons_drop (x ∷ xs) (suc n) d lt = cons_drop xs n d (omega arith)

drop_all : {X : Type 0} (xs : List X) (n : ℕ) → length xs ≤ n → drop n xs ≡ []
drop_all [] zero le = refl
drop_all [] (suc n) le = refl
drop_all (x ∷ xs) zero le = absurd (omega arith)
drop_all (x ∷ xs) (suc n) le = drop_all xs n (omega arith)

-- what a search finds at the place that parts a list
pub record FoundAt {X : Type 0} (lt : X → X → Bool) (x : X) (xs : List X) (n : ℕ) : Type 0 where
  pub there : Contains xs x
  pub removed : without lt x xs ≡ remove xs n

pub record NotFound {X : Type 0} (lt : X → X → Bool) (x : X) (xs : List X) : Type 0 where
  pub absent : Contains xs x → ⊥
  pub same : without lt x xs ≡ xs

module _ {X : Type 0} (lt : X → X → Bool) (o : IsStrictOrder lt) (x : X) (xs : List X) (n : ℕ) (up : IsAscending lt xs)
    (front : Each (λ y. lt y x ≡ true) (take n xs)) (rest : Each (λ y. lt y x ≡ false) (drop n xs)) where
  pub found_at : (y : X) → n < length xs → y ≡ get_or xs n y → lt x y ≡ false → FoundAt lt x xs n
  found_at y within is after =
      let parts : drop n xs ≡ y ∷ drop (suc n) xs = cons_drop xs n y within ∙ ap (λ z. z ∷ drop (suc n) xs) (sym is) in
      let same : y ≡ x = o.total y x (subst (Each (λ z. lt z x ≡ false)) parts rest).0 after in
      let whole : xs ≡ take n xs ++ x ∷ drop (suc n) xs =
      sym (take-append-drop n xs) ∙ ap (λ zs. take n xs ++ zs) (parts ∙ ap (λ z. z ∷ drop (suc n) xs) same) in
      record {
        there = (n, within, subst (λ z. get_or xs n z ≡ z) same (sym is));
        removed = ap (without lt x) whole ∙ without-present lt o x (take n xs) (drop (suc n) xs) front
            (IsAscending-right lt (take n xs) (x ∷ drop (suc n) xs) (subst (IsAscending lt) whole up));
      }

  not_found : Each (λ y. y ≡ x → ⊥) (drop n xs) → NotFound lt x xs
  not_found others =
      let all : Each (λ y. y ≡ x → ⊥) xs = subst (Each (λ y. y ≡ x → ⊥)) (take-append-drop n xs)
      (Each-append (λ y. y ≡ x → ⊥) (take n xs) (drop n xs)
      (Each-map (λ y. lt y x ≡ true) (λ y. y ≡ x → ⊥) (λ y e. differs lt o x y e) (take n xs) front) others) in
      record { absent = absent-Each xs x all; same = without-absent lt o x xs all }

  pub not_found_end : n ≡ length xs → NotFound lt x xs
  not_found_end e = not_found (subst (Each (λ y. y ≡ x → ⊥)) (sym (drop_all xs n (omega arith))) tt)

  pub not_found_later : (y : X) → n < length xs → y ≡ get_or xs n y → lt x y ≡ true → NotFound lt x xs
  not_found_later y within is after =
      let parts : drop n xs ≡ y ∷ drop (suc n) xs = cons_drop xs n y within ∙ ap (λ z. z ∷ drop (suc n) xs) (sym is) in
      let later : IsAscending lt (y ∷ drop (suc n) xs) = subst (IsAscending lt) parts
      (IsAscending-right lt (take n xs) (drop n xs) (subst (IsAscending lt) (sym (take-append-drop n xs)) up)) in
      let beyond : (z : X) → lt x z ≡ true → z ≡ x → ⊥ =
      λ z e f. false≢true (sym (o.irrefl x) ∙ subst (λ w. lt x w ≡ true) f e) in
      not_found (subst (Each (λ z. z ≡ x → ⊥)) (sym parts) (
        beyond y after,
        Each-map (λ z. lt y z ≡ true) (λ z. z ≡ x → ⊥) (λ z e. beyond z (o.trans x y z after e))
            (drop (suc n) xs) later.0,
      ))

pub Each-first : {X : Type 0} (P : X → Type 0) (xs : List X) (q : X) → Each P xs → first xs ≡ Some q → P q
Each-first P [] q e f = cc
Each-first P (x ∷ xs) q e f = let same : x ≡ q = cc in subst P same e.0

pub Each-in_order : {X : Type 0} (lt : X → X → Bool) (P : X → Type 0) (xs : List X) → Each P xs
    → Each P (in_order lt xs)
Each-in_order lt P [] e = tt
Each-in_order lt P (x ∷ xs) e = Each-inserted lt P x (in_order lt xs) e.0 (Each-in_order lt P xs e.1)

module _ {X : Type 0} (lt : X → X → Bool) (o : IsStrictOrder lt) where
  -- the first of a list, and then what comes after it
  pub step_all : (xs : List X) (q : X) → IsAscending lt xs → first xs ≡ Some q → xs ≡ q ∷ above lt q xs
  step_all [] q a f = cc
  step_all (x ∷ xs) q a f = let same : x ≡ q = cc in subst (λ z. x ∷ xs ≡ z ∷ above lt z (x ∷ xs)) same
      (rw (o.irrefl x) (ap (λ ys. x ∷ ys) (sym (filter-all (lt x) xs a.0))))

  -- the first after a value, and then what comes after that one
  pub step_above : (c : X) (xs : List X) (q : X) → IsAscending lt xs → first (above lt c xs) ≡ Some q
      → above lt c xs ≡ q ∷ above lt q xs
  step_above c [] q a f = cc
  step_above c (x ∷ xs) q a f = elim (lt c x) as
      (λ b. lt c x ≡ b → first (cond b (x ∷ above lt c xs) (above lt c xs)) ≡ Some q
      → cond b (x ∷ above lt c xs) (above lt c xs) ≡ q ∷ cond (lt q x) (x ∷ above lt q xs) (above lt q xs)) [
        | true ↦ λ e g.
            let same : x ≡ q = cc in
            subst (λ z. x ∷ above lt c xs ≡ z ∷ cond (lt z x) (x ∷ above lt z xs) (above lt z xs)) same
            (rw (o.irrefl x)
            (ap (λ ys. x ∷ ys)
            (filter-all (lt c) xs (Each-map (λ y. lt x y ≡ true) (λ y. lt c y ≡ true) (λ y h. o.trans c x y e h) xs a.0)
            ∙ sym (filter-all (lt x) xs a.0))))
        | false ↦ λ e g.
            let later : lt x q ≡ true =
            Each-first (λ y. lt x y ≡ true) (above lt c xs) q (Each-filter (λ y. lt x y ≡ true) (lt c) xs a.0) g in
            rw (asymm lt o x q later) (step_above c xs q a.1 g)
      ] refl f

  -- values in order, none of them twice
  pub IsAscending-in_order : (xs : List X) → IsDistinct xs → IsAscending lt (in_order lt xs)
  IsAscending-in_order [] d = tt
  IsAscending-in_order (x ∷ xs) d = IsAscending-inserted lt o x (in_order lt xs)
      (Each-in_order lt (λ y. y ≡ x → ⊥) xs d.0) (IsAscending-in_order xs d.1)

module _ {X : Type 0} (lt : X → X → Bool) (o : IsStrictOrder lt) where
  inserted-swap_less : (x y : X) (zs : List X) → lt x y ≡ true → inserted lt x (inserted lt y zs)
      ≡ inserted lt y (inserted lt x zs)
  inserted-swap_less x y [] e = rw (e, asymm lt o x y e) refl
  inserted-swap_less x y (z ∷ zs) e =
      let not_after = asymm lt o x y e in
      elim (lt z x) as (λ a. lt z x ≡ a → inserted lt x (inserted lt y (z ∷ zs))
      ≡ inserted lt y (cond a (z ∷ inserted lt x zs) (x ∷ z ∷ zs))) [
        | true ↦ λ f. let g = o.trans z x y f e in rw (g, f) (ap (λ ys. z ∷ ys) (inserted-swap_less x y zs e))
        | false ↦ λ f. elim (lt z y) as (λ b. inserted lt x (cond b (z ∷ inserted lt y zs) (y ∷ z ∷ zs))
            ≡ cond (lt x y) (x ∷ cond b (z ∷ inserted lt y zs) (y ∷ z ∷ zs)) (y ∷ x ∷ z ∷ zs)) [
              | true ↦ rw (f, e) refl
              | false ↦ rw (not_after, e) refl
            ]
      ] refl

  -- two values go in, in either order
  pub inserted-swap : (x y : X) (zs : List X) → inserted lt x (inserted lt y zs) ≡ inserted lt y (inserted lt x zs)
  inserted-swap x y zs =
      elim (lt x y) as (λ a. lt x y ≡ a → inserted lt x (inserted lt y zs) ≡ inserted lt y (inserted lt x zs)) [
        | true ↦ λ e. inserted-swap_less x y zs e
        | false ↦ λ e. elim (lt y x) as (λ b. lt y x ≡ b → inserted lt x (inserted lt y zs)
            ≡ inserted lt y (inserted lt x zs)) [
              | true ↦ λ f. sym (inserted-swap_less y x zs f)
              | false ↦ λ f. subst (λ z. inserted lt x (inserted lt z zs) ≡ inserted lt z (inserted lt x zs))
                  (o.total x y e f) refl
            ] refl
      ] refl

  -- a value in the middle goes in last
  pub in_order-middle : (xs : List X) (x : X) (ys : List X) → in_order lt (xs ++ x ∷ ys)
      ≡ inserted lt x (in_order lt (xs ++ ys))
  in_order-middle [] x ys = refl
  in_order-middle (z ∷ xs) x ys =
      ap (inserted lt z) (in_order-middle xs x ys) ∙ inserted-swap z x (in_order lt (xs ++ ys))

  pub without-inserted : (x : X) (ys : List X) → Each (λ y. y ≡ x → ⊥) ys → without lt x (inserted lt x ys) ≡ ys
  without-inserted x [] n = rw (o.irrefl x) refl
  without-inserted x (y ∷ ys) n =
      elim (lt y x) as (λ a. lt y x ≡ a → without lt x (cond a (y ∷ inserted lt x ys) (x ∷ y ∷ ys)) ≡ y ∷ ys) [
        | true ↦ λ e. rw (asymm lt o y x e, e) (ap (λ zs. y ∷ zs) (without-inserted x ys n.1))
        | false ↦ λ e. rw (o.irrefl x) (without-absent lt o x (y ∷ ys) n)
      ] refl

  -- in place of a value that stands once, another
  pub in_order-replaced : (xs : List X) (x y : X) (ys : List X) → Each (λ z. z ≡ x → ⊥) (xs ++ ys)
      → in_order lt (xs ++ y ∷ ys) ≡ inserted lt y (without lt x (in_order lt (xs ++ x ∷ ys)))
  in_order-replaced xs x y ys n =
      in_order-middle xs y ys ∙ ap (inserted lt y)
      (sym (ap (without lt x) (in_order-middle xs x ys) ∙ without-inserted x (in_order lt (xs ++ ys))
      (Each-in_order lt (λ z. z ≡ x → ⊥) (xs ++ ys) n)))

  -- without the value in the middle
  pub without-middle : (xs : List X) (x : X) (ys : List X) → Each (λ z. z ≡ x → ⊥) (xs ++ ys)
      → without lt x (in_order lt (xs ++ x ∷ ys)) ≡ in_order lt (xs ++ ys)
  without-middle xs x ys n = ap (without lt x) (in_order-middle xs x ys)
      ∙ without-inserted x (in_order lt (xs ++ ys)) (Each-in_order lt (λ z. z ≡ x → ⊥) (xs ++ ys) n)

-- a list around one of its elements
pub take_drop_at : {X : Type 0} (xs : List X) (i : ℕ) (d : X) → i < length xs
    → xs ≡ take i xs ++ get_or xs i d ∷ drop (suc i) xs
take_drop_at [] i d lt = absurd (omega arith)
take_drop_at (x ∷ xs) zero d lt = refl
take_drop_at (x ∷ xs) (suc i) d lt = ap (λ ys. x ∷ ys) (take_drop_at xs i d (omega arith))

pub set_at : {X : Type 0} (xs : List X) (i : ℕ) (y : X) → i < length xs → set xs i y ≡ take i xs ++ y ∷ drop (suc i) xs
set_at [] i y lt = absurd (omega arith)
set_at (x ∷ xs) zero y lt = refl
set_at (x ∷ xs) (suc i) y lt = ap (λ ys. x ∷ ys) (set_at xs i y (omega arith))

remove-set_below : {X : Type 0} (xs : List X) (i j : ℕ) (y : X) → i < j → remove (set xs i y) j ≡ set (remove xs j) i y
remove-set_below [] i zero y lt = absurd (omega arith)
remove-set_below [] i (suc j) y lt = refl
remove-set_below (x ∷ xs) i zero y lt = absurd (omega arith)
remove-set_below (x ∷ xs) zero (suc j) y lt = refl
remove-set_below (x ∷ xs) (suc i) (suc j) y lt = ap (λ ys. x ∷ ys) (remove-set_below xs i j y (omega arith))

remove-set_above : {X : Type 0} (xs : List X) (k j : ℕ) (y : X) → j ≤ k
    → remove (set xs (suc k) y) j ≡ set (remove xs j) k y
remove-set_above [] k zero y le = refl
remove-set_above [] k (suc j) y le = refl
remove-set_above (x ∷ xs) k zero y le = refl
remove-set_above (x ∷ xs) zero (suc j) y le = absurd (omega arith)
remove-set_above (x ∷ xs) (suc k) (suc j) y le = ap (λ ys. x ∷ ys) (remove-set_above xs k j y (omega arith))

remove-set_same : {X : Type 0} (xs : List X) (i : ℕ) (y : X) → remove (set xs i y) i ≡ remove xs i
remove-set_same [] zero y = refl
remove-set_same [] (suc i) y = refl
remove-set_same (x ∷ xs) zero y = refl
remove-set_same (x ∷ xs) (suc i) y = ap (λ ys. x ∷ ys) (remove-set_same xs i y)

pub Each-index : {X : Type 0} (P : X → Type 0) (xs : List X) → ((k : ℕ) (d : X) → k < length xs → P (get_or xs k d))
    → Each P xs
Each-index P [] h = tt
Each-index P (x ∷ xs) h = (h 0 x (omega arith), Each-index P xs (λ k d lt. h (suc k) d (omega arith)))

module _ {X : Type 0} (lt : X → X → Bool) (o : IsStrictOrder lt) where
  in_order-pull : (xs : List X) (i : ℕ) (d : X) → i < length xs → in_order lt xs
      ≡ inserted lt (get_or xs i d) (in_order lt (remove xs i))
  in_order-pull xs i d within =
      ap (in_order lt) (take_drop_at xs i d within) ∙ in_order-middle lt o (take i xs) (get_or xs i d) (drop (suc i) xs)

  in_order-set : (xs : List X) (i : ℕ) (y : X) → i < length xs → in_order lt (set xs i y)
      ≡ inserted lt y (in_order lt (remove xs i))
  in_order-set xs i y within =
      ap (in_order lt) (set_at xs i y within) ∙ in_order-middle lt o (take i xs) y (drop (suc i) xs)

  swapped_below : (xs : List X) (i j : ℕ) (d : X) → i < length xs → j < length xs → i < j
      → in_order lt (set (set xs i (get_or xs j d)) j (get_or xs i d)) ≡ in_order lt xs
  swapped_below xs i j d wi wj less =
      let a = get_or xs i d in
      let b = get_or xs j d in
      let shorter : length (remove xs j) + 1 ≡ length xs = length-remove xs j wj in
      let in_rest : i < length (remove xs j) = omega arith in
      in_order-set (set xs i b) j a (omega (arith, length-set {A = X}))
      ∙ ap (λ l. inserted lt a (in_order lt l)) (remove-set_below xs i j b less)
      ∙ ap (inserted lt a) (in_order-set (remove xs j) i b in_rest)
      ∙ inserted-swap lt o a b (in_order lt (remove (remove xs j) i))
      ∙ sym (in_order-pull xs j d wj ∙ ap (inserted lt b)
      (in_order-pull (remove xs j) i d in_rest ∙ ap (λ x. inserted lt x (in_order lt (remove (remove xs j) i)))
      (get_or-remove_below xs j d i less wj)))

  swapped_above : (xs : List X) (k j : ℕ) (d : X) → suc k < length xs → j < length xs → j ≤ k
      → in_order lt (set (set xs (suc k) (get_or xs j d)) j (get_or xs (suc k) d)) ≡ in_order lt xs
  swapped_above xs k j d wi wj less =
      let a = get_or xs (suc k) d in
      let b = get_or xs j d in
      let shorter : length (remove xs j) + 1 ≡ length xs = length-remove xs j wj in
      let in_rest : k < length (remove xs j) = omega arith in
      in_order-set (set xs (suc k) b) j a (omega (arith, length-set {A = X}))
      ∙ ap (λ l. inserted lt a (in_order lt l)) (remove-set_above xs k j b less)
      ∙ ap (inserted lt a) (in_order-set (remove xs j) k b in_rest)
      ∙ inserted-swap lt o a b (in_order lt (remove (remove xs j) k))
      ∙ sym (in_order-pull xs j d wj ∙ ap (inserted lt b)
      (in_order-pull (remove xs j) k d in_rest ∙ ap (λ x. inserted lt x (in_order lt (remove (remove xs j) k)))
      (get_or-remove_above xs j d k less wj ∙ ap (λ m. get_or xs m d) (add-one k))))

  swapped_same : (xs : List X) (i : ℕ) (d : X) → i < length xs → in_order lt
      (set (set xs i (get_or xs i d)) i (get_or xs i d)) ≡ in_order lt xs
  swapped_same xs i d within =
      in_order-set (set xs i (get_or xs i d)) i (get_or xs i d) (omega (arith, length-set {A = X}))
      ∙ ap (λ l. inserted lt (get_or xs i d) (in_order lt l)) (remove-set_same xs i (get_or xs i d))
      ∙ sym (in_order-pull xs i d within)

  swapped : (xs : List X) (i j : ℕ) (d : X) → i < length xs → j < length xs
      → in_order lt (set (set xs i (get_or xs j d)) j (get_or xs i d)) ≡ in_order lt xs
  swapped xs i j d wi wj = elim (cases_lt i j) [
    | inl less ↦ swapped_below xs i j d wi wj less
    | inr le ↦ above_or_same i le wi
  ]
    where
      above_or_same : (n : ℕ) → j ≤ n → n < length xs → in_order lt (set (set xs n (get_or xs j d)) j (get_or xs n d))
          ≡ in_order lt xs
      above_or_same zero le w = let e : j ≡ 0 = omega arith in rw e (swapped_same xs 0 d w)
      above_or_same (suc k) le w = elim (cases_lt k j) [
        | inl less ↦ let e : j ≡ suc k = omega arith in rw e (swapped_same xs (suc k) d w)
        | inr more ↦ swapped_above xs k j d w wj more
      ]

  swap_keeps : (xs l : List X) (i j : ℕ) → i < length l → j < length l → in_order lt l ≡ in_order lt xs
      → in_order lt (swap l i j) ≡ in_order lt xs
  swap_keeps xs [] i j wi wj e = e
  swap_keeps xs (d ∷ ys) i j wi wj e = swapped (d ∷ ys) i j d wi wj ∙ e

  -- the order of the values does not matter
  pub in_order-permutation : (xs ys : List X) → IsPermutation xs ys → in_order lt ys ≡ in_order lt xs
  in_order-permutation xs ys p = IsPermutation-keeps xs (λ l. in_order lt l ≡ in_order lt xs) refl (swap_keeps xs) ys p

  pub inserted_first : (x : X) (ys : List X) → Each (λ y. lt y x ≡ false) ys → inserted lt x ys ≡ x ∷ ys
  inserted_first x [] e = refl
  inserted_first x (y ∷ ys) e = rw e.0 refl

  -- what is sorted stays
  pub in_order-sorted : (xs : List X)
      → ((i j : ℕ) (d : X) → i ≤ j → j < length xs → lt (get_or xs j d) (get_or xs i d) ≡ false) → in_order lt xs ≡ xs
  in_order-sorted [] h = refl
  in_order-sorted (x ∷ xs) h =
      ap (inserted lt x) (in_order-sorted xs (λ i j d le within. h (suc i) (suc j) d (omega arith) (omega arith)))
      ∙ inserted_first x xs
      (Each-index (λ y. lt y x ≡ false) xs (λ k d within. h 0 (suc k) d (omega arith) (omega arith)))
