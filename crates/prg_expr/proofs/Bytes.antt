-- Bytes of one kind in front, and words in front.
use Rattle.std.proofs.Common.{◌≡◌, ℕ, suc, ◌⊎◌, inl, inr, List, [], ◌∷◌, ◌++◌, length, take, drop, map, Bool, true}
use Rattle.std.proofs.Common.{false, Some, None, refl, sym, ap, ◌∙◌, subst, arith, eq-eqb, eqb, cond}
use Rattle.std.specs.Prelude.{◌==◌}
use Rattle.std.specs.Char.{to_ascii_lowercase}
use Rattle.std.specs.List.{prefix_len}
use Rattle.std.proofs.lemmas.Bool.Decides.{eqb_tells}
use Rattle.prg_expr.specs.Word.{Word}
use Rattle.prg_expr.specs.Lexicon.{after_word, IsOneOf, EachPasses, FirstFails}
use Rattle.prg_expr.proofs.Sound.{bool_tells}

pub cond_true : {A : Type 0} (c : Bool) (p q : A) → c ≡ true → cond c p q ≡ p
cond_true c p q h = rw h refl

pub cond_false : {A : Type 0} (c : Bool) (p q : A) → c ≡ false → cond c p q ≡ q
cond_false c p q h = rw h refl

chosen : {A : Type 0} (c : Bool) (p q r : A) → cond c p q ≡ r → ((c ≡ true) × (p ≡ r)) ⊎ ((c ≡ false) × (q ≡ r))
chosen true p q r h = inl (refl, h)
chosen false p q r h = inr (refl, h)

pub one_more : (p : ℕ → Bool) (x : ℕ) (xs : List ℕ) → p x ≡ true → prefix_len p (x ∷ xs) ≡ suc (prefix_len p xs)
one_more p x xs y = rw y (omega arith)

no_more : (p : ℕ → Bool) (x : ℕ) (xs : List ℕ) → p x ≡ false → prefix_len p (x ∷ xs) ≡ 0
no_more p x xs n = rw n refl

pub front_each : (p : ℕ → Bool) (xs : List ℕ) → EachPasses p (take (prefix_len p xs) xs)
front_each p [] = tt
front_each p (x ∷ xs) = elim (bool_tells (p x)) [
  | inl y ↦ (let P : ℕ → Type 0 = λ n. EachPasses p (take n (x ∷ xs)) in
      subst P (sym (one_more p x xs y)) (y, front_each p xs))
  | inr n ↦ (let P : ℕ → Type 0 = λ n. EachPasses p (take n (x ∷ xs)) in subst P (sym (no_more p x xs n)) tt)
]

pub back_stops : (p : ℕ → Bool) (xs : List ℕ) → FirstFails p (drop (prefix_len p xs) xs)
back_stops p [] = tt
back_stops p (x ∷ xs) = elim (bool_tells (p x)) [
  | inl y ↦ (let P : ℕ → Type 0 = λ n. FirstFails p (drop n (x ∷ xs)) in
      subst P (sym (one_more p x xs y)) (back_stops p xs))
  | inr n ↦ (let P : ℕ → Type 0 = λ n. FirstFails p (drop n (x ∷ xs)) in subst P (sym (no_more p x xs n)) n)
]

pub prefix_is : (p : ℕ → Bool) (front rest : List ℕ) → EachPasses p front → FirstFails p rest
    → prefix_len p (front ++ rest) ≡ length front
prefix_is p [] [] e s = refl
prefix_is p [] (b ∷ bs) e s = no_more p b bs s
prefix_is p (b ∷ front) rest e s = one_more p b (front ++ rest) e.0 ∙ ap suc (prefix_is p front rest e.1 s)

cons_is : (a b : ℕ) (as' bs : List ℕ) → a ≡ b → as' ≡ bs → a ∷ as' ≡ b ∷ bs
cons_is a b as' bs p q = cc

pub after_is : (w bytes rest : List ℕ) → after_word w bytes ≡ Some rest
    → (letters : List ℕ) × (map to_ascii_lowercase letters ≡ w) × (bytes ≡ letters ++ rest)
unfolding after_word
after_is [] bytes rest h = ([], refl, cc)
after_is (c ∷ w) [] rest h = absurd cc
after_is (c ∷ w) (b ∷ bytes) rest h = elim (eqb_tells (to_ascii_lowercase b) c) [
  | inl p ↦ (let same : after_word (c ∷ w) (b ∷ bytes) ≡ after_word w bytes = rw p.0 refl in
      let t = after_is w bytes rest (sym same ∙ h) in
      (b ∷ t.0, cons_is (to_ascii_lowercase b) c (map to_ascii_lowercase t.0) w p.1 t.1, ap (λ bs. b ∷ bs) t.2))
  | inr p ↦ (let n : after_word (c ∷ w) (b ∷ bytes) ≡ None = rw p.0 refl in absurd cc)
]

pub after_finds : (letters rest : List ℕ) → after_word (map to_ascii_lowercase letters) (letters ++ rest) ≡ Some rest
unfolding after_word
after_finds [] rest = refl
after_finds (b ∷ letters) rest = let e : eqb (to_ascii_lowercase b) (to_ascii_lowercase b) ≡ true = eq-eqb _ _ refl in
    rw e (after_finds letters rest)

abbrev pub Entry : Type 0
Entry = List ℕ × Word

abbrev pub entry : List ℕ → Word → Entry
entry w t = (w, t)

pub pair_is : (a b : List ℕ) (v w : Word) → a ≡ b → v ≡ w → entry a v ≡ entry b w
pair_is a b v w p q = cc

unfoldable pub differs : List ℕ → List ℕ → Bool
differs [] v = false
differs (c ∷ w) [] = false
differs (c ∷ w) (x ∷ v) = cond (x == c) (differs w v) true

pub after_differs : (w letters rest : List ℕ) → differs w (map to_ascii_lowercase letters) ≡ true
    → after_word w (letters ++ rest) ≡ None
unfolding differs after_word
after_differs [] letters rest h = absurd cc
after_differs (c ∷ w) [] rest h = absurd cc
after_differs (c ∷ w) (b ∷ letters) rest h =
    elim (chosen (to_ascii_lowercase b == c) (differs w (map to_ascii_lowercase letters)) true true h) [
      | inl p ↦ cond_true (to_ascii_lowercase b == c) _ _ p.0 ∙ after_differs w letters rest p.1
      | inr p ↦ cond_false (to_ascii_lowercase b == c) _ _ p.0
    ]

abbrev pub AllDiffer : List ℕ → List Entry → Type 0
AllDiffer w [] = Unit {0}
AllDiffer w (y ∷ ys) = (differs w y.0 ≡ true) × AllDiffer w ys

abbrev pub Apart : List Entry → Type 0
Apart [] = Unit {0}
Apart (x ∷ xs) = AllDiffer x.0 xs × Apart xs

pub differs_listed : (w v : List ℕ) (t : Word) (table : List Entry) → AllDiffer w table → IsOneOf (entry v t) table
    → differs w v ≡ true
differs_listed w v t [] a i = absurd i
differs_listed w v t (x ∷ xs) a (inl i) = subst (λ (x : Entry). differs w x.0 ≡ true) (sym i) a.0
differs_listed w v t (x ∷ xs) a (inr i) = differs_listed w v t xs a.1 i
