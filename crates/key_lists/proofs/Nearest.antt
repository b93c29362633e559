-- What searches of a list in order find, and what they leave.
use Rattle.std.proofs.Common.{◌≡◌, Bool, true, false, cond, Option, Some, None, List, [], ◌∷◌, reverse, refl, sym, ap}
use Rattle.std.proofs.Common.{◌∙◌, subst}
use Rattle.std.specs.Prelude.{⊤}
use Rattle.std.specs.List.{filter}
use Rattle.std.proofs.lemmas.Bool.{false≢true}
use Rattle.std.proofs.lemmas.List.{reverse-reverse}
use Rattle.key_lists.specs.Order.{IsStrictOrder, Each, IsAscending, first, above}
use Rattle.key_lists.specs.Laws.{IsLeastOf}
use Rattle.key_lists.proofs.Ordered.{Each-map, Each-reverse, Each-filter, Each-first, filter-all, asymm}
use Rattle.key_lists.proofs.Members.{Contains-here, Contains-later, Contains-reverse}

-- a value at the front of the list that hasn't the property changes nothing
IsLeastOf-skip : {X : Type 0} (lt : X → X → Bool) (P : X → Type 0) (x : X) (xs : List X) (r : Option X) → (P x → ⊥)
    → IsLeastOf lt P xs r → IsLeastOf lt P (x ∷ xs) r
IsLeastOf-skip lt P x xs None n e = (n, e)
IsLeastOf-skip lt P x xs (Some q) n e =
    record { there = Contains-later x xs q e.there; fits = e.fits; least = (λ p. absurd (n p), e.least) }

-- the same of a list and of it backwards
pub IsLeastOf-reverse : {X : Type 0} (lt : X → X → Bool) (P : X → Type 0) (xs : List X) (r : Option X)
    → IsLeastOf lt P (reverse xs) r → IsLeastOf lt P xs r
IsLeastOf-reverse lt P xs None e =
    subst (Each (λ y. P y → ⊥)) (reverse-reverse xs) (Each-reverse (λ y. P y → ⊥) (reverse xs) e)
IsLeastOf-reverse lt P xs (Some q) e = record {
  there = Contains-reverse xs q e.there;
  fits = e.fits;
  least = subst (Each (λ y. P y → lt y q ≡ false)) (reverse-reverse xs)
      (Each-reverse (λ y. P y → lt y q ≡ false) (reverse xs) e.least);
}

-- of one property for another
pub IsLeastOf-map : {X : Type 0} (lt : X → X → Bool) (P Q : X → Type 0) (xs : List X) (r : Option X)
    → ((x : X) → P x → Q x) → ((x : X) → Q x → P x) → IsLeastOf lt P xs r → IsLeastOf lt Q xs r
IsLeastOf-map lt P Q xs None f g e = Each-map (λ y. P y → ⊥) (λ y. Q y → ⊥) (λ y n q. n (g y q)) xs e
IsLeastOf-map lt P Q xs (Some q) f g e = record {
  there = e.there;
  fits = f q e.fits;
  least = Each-map (λ y. P y → lt y q ≡ false) (λ y. Q y → lt y q ≡ false) (λ y n p. n (g y p)) xs e.least;
}

module _ {X : Type 0} (lt : X → X → Bool) (o : IsStrictOrder lt) where
  -- of a list in order, the first value that passes is the least
  pub filter-least : (p : X → Bool) (xs : List X) → IsAscending lt xs
      → IsLeastOf lt (λ y. p y ≡ true) xs (first (filter p xs))
  filter-least p [] a = tt
  filter-least p (x ∷ xs) a =
      elim (p x) as (λ b. p x ≡ b → IsLeastOf lt (λ y. p y ≡ true) (x ∷ xs)
      (first (cond b (x ∷ filter p xs) (filter p xs)))) [
        | true ↦ λ e. record {
          there = Contains-here x xs x refl;
          fits = e;
          least = (
            λ _. o.irrefl x,
            Each-map (λ y. lt x y ≡ true) (λ y. p y ≡ true → lt y x ≡ false)
                (λ y f _. asymm lt o x y f) xs a.0,
          );
        }
        | false ↦ λ e. IsLeastOf-skip lt (λ y. p y ≡ true) x xs (first (filter p xs)) (λ f. false≢true (sym e ∙ f))
            (filter-least p xs a.1)
      ] refl

  pub first-least : (xs : List X) → IsAscending lt xs → IsLeastOf lt (λ _. ⊤) xs (first xs)
  first-least [] a = tt
  first-least (x ∷ xs) a = record {
    there = Contains-here x xs x refl;
    fits = tt;
    least = (
      λ _. o.irrefl x,
      Each-map (λ y. lt x y ≡ true) (λ y. ⊤ → lt y x ≡ false) (λ y f _. asymm lt o x y f) xs
          a.0,
    );
  }

  -- the first value that passes a test that goes up along the order, and then what comes after it
  pub step_from : (p : X → Bool) → ((x y : X) → lt x y ≡ true → p x ≡ true → p y ≡ true) → (xs : List X) (q : X)
      → IsAscending lt xs → first (filter p xs) ≡ Some q → filter p xs ≡ q ∷ above lt q xs
  step_from p up [] q a f = cc
  step_from p up (x ∷ xs) q a f = elim (p x) as
      (λ b. p x ≡ b → first (cond b (x ∷ filter p xs) (filter p xs)) ≡ Some q
      → cond b (x ∷ filter p xs) (filter p xs) ≡ q ∷ cond (lt q x) (x ∷ above lt q xs) (above lt q xs)) [
        | true ↦ λ e g.
            let same : x ≡ q = cc in
            subst (λ z. x ∷ filter p xs ≡ z ∷ cond (lt z x) (x ∷ above lt z xs) (above lt z xs)) same
            (rw (o.irrefl x)
            (ap (λ ys. x ∷ ys)
            (filter-all p xs (Each-map (λ y. lt x y ≡ true) (λ y. p y ≡ true) (λ y h. up x y h e) xs a.0)
            ∙ sym (filter-all (lt x) xs a.0))))
        | false ↦ λ e g.
            let later : lt x q ≡ true =
            Each-first (λ y. lt x y ≡ true) (filter p xs) q (Each-filter (λ y. lt x y ≡ true) p xs a.0) g in
            rw (asymm lt o x q later) (step_from p up xs q a.1 g)
      ] refl f
