-- Which values a list in order has.
use Rattle.std.proofs.Common.{◌≡◌, ℕ, zero, suc, ◌<◌, ◌⊎◌, inl, inr, Bool, true, false, cond, ◌||◌, List, [], ◌∷◌}
use Rattle.std.proofs.Common.{length, get_or, reverse, refl, sym, ap, ◌∙◌, subst, arith}
use Rattle.std.specs.List.{filter, Contains}
use Rattle.std.proofs.lemmas.Bool.{false≢true}
use Rattle.std.proofs.lemmas.List.{reverse-append}
use Rattle.std.proofs.lemmas.List.Elements.{Contains-append_cases}
use Rattle.key_lists.specs.Order.{IsStrictOrder, inserted, without, in_order}

pub Contains-here : {X : Type 0} (x : X) (xs : List X) (y : X) → y ≡ x → Contains (x ∷ xs) y
Contains-here x xs y e = (0, omega arith, sym e)

pub Contains-later : {X : Type 0} (x : X) (xs : List X) (y : X) → Contains xs y → Contains (x ∷ xs) y
Contains-later x xs y c = (suc c.0, omega (arith, c.1), c.2)

-- the first, or one of the rest
pub Contains-cases : {X : Type 0} (x : X) (xs : List X) (y : X) → Contains (x ∷ xs) y → (y ≡ x) ⊎ Contains xs y
Contains-cases x xs y c = at c.0 c.1 c.2
  where
    at : (k : ℕ) → k < length (x ∷ xs) → get_or (x ∷ xs) k y ≡ y → (y ≡ x) ⊎ Contains xs y
    at zero within e = inl (sym e)
    at (suc k) within e = inr (k, omega (arith, within), e)

pub Contains-none : {X : Type 0} (y : X) → Contains [] y → ⊥
Contains-none y c = omega (arith, c.1)

pub Contains-reverse : {X : Type 0} (xs : List X) (y : X) → Contains (reverse xs) y → Contains xs y
Contains-reverse [] y c = c
Contains-reverse (x ∷ xs) y c =
    elim (Contains-append_cases (reverse xs) (x ∷ []) y (subst (λ l. Contains l y) (reverse-append (x ∷ []) xs) c)) [
      | inl before ↦ Contains-later x xs y (Contains-reverse xs y before)
      | inr last ↦ elim (Contains-cases x [] y last) [
        | inl e ↦ Contains-here x xs y e
        | inr none ↦ absurd
            (Contains-none y none)
      ]
    ]

-- what a filter keeps is there, and passes
pub Contains-filter : {X : Type 0} (p : X → Bool) (xs : List X) (y : X) → Contains (filter p xs) y
    → Contains xs y × (p y ≡ true)
Contains-filter p [] y c = absurd (Contains-none y c)
Contains-filter p (x ∷ xs) y c =
    elim (p x) as (λ b. p x ≡ b → Contains (cond b (x ∷ filter p xs) (filter p xs)) y
    → Contains (x ∷ xs) y × (p y ≡ true)) [
      | true ↦ λ e kept. elim (Contains-cases x (filter p xs) y kept) [
        | inl same ↦ (Contains-here x xs y same, ap p same ∙ e)
        | inr later ↦ let r = Contains-filter p xs y later in (Contains-later x xs y r.0, r.1)
      ]
      | false ↦ λ e kept. let r = Contains-filter p xs y kept in (Contains-later x xs y r.0, r.1)
    ] refl c

-- what is there and passes, a filter keeps
pub filter-Contains : {X : Type 0} (p : X → Bool) (xs : List X) (y : X) → Contains xs y → p y ≡ true
    → Contains (filter p xs) y
filter-Contains p [] y c e = absurd (Contains-none y c)
filter-Contains p (x ∷ xs) y c e =
    elim (p x) as (λ b. p x ≡ b → Contains (cond b (x ∷ filter p xs) (filter p xs)) y) [
      | true ↦ λ f. elim (Contains-cases x xs y c) [
        | inl same ↦ Contains-here x (filter p xs) y same
        | inr later ↦ Contains-later x (filter p xs) y (filter-Contains p xs y later e)
      ]
      | false ↦ λ f. elim (Contains-cases x xs y c) [
        | inl same ↦ absurd (false≢true (sym f ∙ ap p (sym same) ∙ e))
        | inr later ↦ filter-Contains p xs y later e
      ]
    ] refl

pub Contains-inserted : {X : Type 0} (lt : X → X → Bool) (x : X) (xs : List X) (y : X) → Contains (inserted lt x xs) y
    → (y ≡ x) ⊎ Contains xs y
Contains-inserted lt x [] y c = Contains-cases x [] y c
Contains-inserted lt x (z ∷ zs) y c =
    elim (lt z x) as (λ b. Contains (cond b (z ∷ inserted lt x zs) (x ∷ z ∷ zs)) y → (y ≡ x) ⊎ Contains (z ∷ zs) y) [
      | true ↦ λ d. elim (Contains-cases z (inserted lt x zs) y d) [
        | inl same ↦ inr (Contains-here z zs y same)
        | inr later ↦ elim (Contains-inserted lt x zs y later) [
          | inl e ↦ inl e
          | inr there ↦ inr
              (Contains-later z zs y there)
        ]
      ]
      | false ↦ λ d. Contains-cases x (z ∷ zs) y d
    ] c

pub inserted-Contains : {X : Type 0} (lt : X → X → Bool) (x : X) (xs : List X) (y : X) → (y ≡ x) ⊎ Contains xs y
    → Contains (inserted lt x xs) y
inserted-Contains lt x [] y (inl e) = Contains-here x [] y e
inserted-Contains lt x [] y (inr c) = absurd (Contains-none y c)
inserted-Contains lt x (z ∷ zs) y h =
    elim (lt z x) as (λ b. Contains (cond b (z ∷ inserted lt x zs) (x ∷ z ∷ zs)) y) [
      | true ↦ elim h [
        | inl e ↦ Contains-later z (inserted lt x zs) y (inserted-Contains lt x zs y (inl e))
        | inr c ↦ elim (Contains-cases z zs y c) [
          | inl same ↦ Contains-here z (inserted lt x zs) y same
          | inr later ↦ Contains-later z (inserted lt x zs) y (inserted-Contains lt x zs y (inr later))
        ]
      ]
      | false ↦ elim h [ inl e ↦ Contains-here x (z ∷ zs) y e | inr c ↦ Contains-later x (z ∷ zs) y c ]
    ]

pub Contains-in_order : {X : Type 0} (lt : X → X → Bool) (xs : List X) (y : X) → Contains (in_order lt xs) y
    → Contains xs y
Contains-in_order lt [] y c = c
Contains-in_order lt (x ∷ xs) y c = elim (Contains-inserted lt x (in_order lt xs) y c) [
  | inl e ↦ Contains-here x xs y e
  | inr there ↦ Contains-later x xs y (Contains-in_order lt xs y there)
]

pub in_order-Contains : {X : Type 0} (lt : X → X → Bool) (xs : List X) (y : X) → Contains xs y
    → Contains (in_order lt xs) y
in_order-Contains lt [] y c = c
in_order-Contains lt (x ∷ xs) y c = inserted-Contains lt x (in_order lt xs) y (elim (Contains-cases x xs y c) [
  | inl e ↦ inl e
  | inr there ↦ inr (in_order-Contains lt xs y there)
])

module _ {X : Type 0} (lt : X → X → Bool) (o : IsStrictOrder lt) where
  -- only the value itself is neither before nor after a value
  differs-either : (x y : X) → (y ≡ x → ⊥) → lt x y || lt y x ≡ true
  differs-either x y n =
      elim (lt x y) as (λ b. lt x y ≡ b → b || lt y x ≡ true) [
        | true ↦ λ e. refl
        | false ↦ λ e. elim (lt y x) as (λ b. lt y x ≡ b → b ≡ true) [
          | true ↦ λ f. refl
          | false ↦ λ f. absurd
              (n (o.total y x f e))
        ] refl
      ] refl

  not_either : (x : X) → lt x x || lt x x ≡ false
  not_either x = rw (o.irrefl x) refl

  pub Contains-without : (x : X) (xs : List X) (y : X) → Contains (without lt x xs) y → Contains xs y × (y ≡ x → ⊥)
  Contains-without x xs y c =
      let r = Contains-filter (λ z. lt x z || lt z x) xs y c in
      (r.0, λ e. false≢true (sym (not_either x) ∙ subst (λ z. lt x z || lt z x ≡ true) e r.1))

  pub without-Contains : (x : X) (xs : List X) (y : X) → Contains xs y → (y ≡ x → ⊥) → Contains (without lt x xs) y
  without-Contains x xs y c n = filter-Contains (λ z. lt x z || lt z x) xs y c (differs-either x y n)
