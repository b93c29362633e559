-- Each function's words name it.
use Rattle.std.proofs.Common.{◌≡◌, ℕ, zero, suc, ◌<◌, ◌⊎◌, inl, inr, List, [], ◌∷◌, ◌++◌, length, Bool, true, false}
use Rattle.std.proofs.Common.{Option, Some, refl, sym, ap, ◌∙◌, subst, arith, eq-eqb, cond}
use Rattle.std.specs.Prelude.{◌==◌, ◌&&◌, ◌||◌, nat_le}
use Rattle.std.proofs.lemmas.Bool.Decides.{eqb_tells, nat_tests}
use Rattle.std.proofs.lemmas.Bool.{and_parts}
use Rattle.prg_expr.specs.declared.function.Function.{Function}
use Rattle.prg_expr.specs.Functions.{is_front, is_cut, FunctionWord, function_of_word, or_function, of_texts, of_parts}
use Rattle.prg_expr.specs.Functions.{of_bytes, of_numbers, of_dates, of_tables, function_words, function_named}
use Rattle.prg_expr.specs.Lexicon.{IsOneOf}
use Rattle.prg_expr.proofs.Sound.{bool_tells}
use Rattle.prg_expr.proofs.Bytes.{cond_true, cond_false}

-- within so many letters two words differ, or one of them ends
unfoldable pub splits : ℕ → List ℕ → List ℕ → Bool
splits zero u v = false
splits (suc n) [] [] = false
splits (suc n) [] (d ∷ v) = true
splits (suc n) (c ∷ u) [] = true
splits (suc n) (c ∷ u) (d ∷ v) = cond (c == d) (splits n u v) true

is_equal : (b c : ℕ) → (b == c) ≡ true → b ≡ c
is_equal b c h = elim (eqb_tells b c) [ inl p ↦ p.1 | inr p ↦ absurd (let f = sym h ∙ p.0 in cc) ]

-- first letters of both are few, and not all of one of the words
short : (n : ℕ) (s u v : List ℕ) → splits n u v ≡ true → is_front s u ≡ true → is_front s v ≡ true
    → (length s < n) × ((length s < length u) ⊎ (length s < length v))
unfolding splits is_front
short zero s u v p i j = absurd cc
short (suc n) s [] [] p i j = absurd cc
short (suc n) [] [] (d ∷ v) p i j = (omega arith, inr (omega arith))
short (suc n) (b ∷ s) [] (d ∷ v) p i j = absurd cc
short (suc n) [] (c ∷ u) [] p i j = (omega arith, inl (omega arith))
short (suc n) (b ∷ s) (c ∷ u) [] p i j = absurd cc
short (suc n) [] (c ∷ u) (d ∷ v) p i j = (omega arith, inl (omega arith))
short (suc n) (b ∷ s) (c ∷ u) (d ∷ v) p i j =
    let x = and_parts (b == c) (is_front s u) i in
    let y = and_parts (b == d) (is_front s v) j in
    let same : c ≡ d = sym (is_equal b c x.0) ∙ is_equal b d y.0 in
    let r = short n s u v (sym (cond_true (c == d) (splits n u v) true (eq-eqb c d same)) ∙ p) x.1 y.1 in
    (omega (arith, r.0), elim r.1 [ inl a ↦ inl (omega (arith, a)) | inr a ↦ inr (omega (arith, a)) ])

cut_long : (s u : List ℕ) → length s < 4 → length s < length u
    → ((length s == length u) || nat_le 4 (length s)) ≡ false
cut_long s u p q = grind (arith, nat_tests)

-- what is cut from one word isn't cut from another
pub not_cut : (s u v : List ℕ) → splits 4 u v ≡ true → is_cut s v ≡ true → is_cut s u ≡ false
not_cut s u v p c = elim (bool_tells (is_cut s u)) [
  | inr n ↦ n
  | inl y ↦ (let a = and_parts (is_front s u) _ y in
      let b = and_parts (is_front s v) _ c in
      let r = short 4 s u v p a.0 b.0 in
      elim r.1 [
        | inl few ↦ absurd (let f = sym a.1 ∙ cut_long s u r.0 few in cc)
        | inr few ↦ absurd (let f = sym b.1 ∙ cut_long s v r.0 few in cc)
      ])
]

abbrev pub splits_all : {A : Type 0} → List ℕ → List (List ℕ × A) → Bool
splits_all u [] = true
splits_all u (y ∷ ys) = splits 4 u y.0 && splits_all u ys

abbrev pub apart : {A : Type 0} → List (List ℕ × A) → Bool
apart [] = true
apart (x ∷ xs) = splits_all x.0 xs && apart xs

pub splits_listed : {A : Type 0} (u : List ℕ) (y : List ℕ × A) (ys : List (List ℕ × A)) → splits_all u ys ≡ true
    → IsOneOf y ys → splits 4 u y.0 ≡ true
splits_listed {A} u y [] h i = absurd i
splits_listed {A} u y (z ∷ ys) h (inl i) = subst (λ (z : List ℕ × A). splits 4 u z.0 ≡ true) (sym i)
    (and_parts (splits 4 u z.0) (splits_all u ys) h).0
splits_listed {A} u y (z ∷ ys) h (inr i) =
    splits_listed u y ys (and_parts (splits 4 u z.0) (splits_all u ys) h).1 i

called_finds : (s : List ℕ) (x : FunctionWord) (table : List FunctionWord) → apart table ≡ true → IsOneOf x table
    → is_cut s x.0 ≡ true → function_of_word table s ≡ Some x.1
called_finds s x [] a i c = absurd i
called_finds s x (y ∷ ys) a (inl i) c =
    let d : is_cut s y.0 ≡ true = subst (λ (z : FunctionWord). is_cut s z.0 ≡ true) i c in
    cond_true (is_cut s y.0) (Some y.1) (function_of_word ys s) d ∙ ap (λ (z : FunctionWord). Some z.1) (sym i)
called_finds s x (y ∷ ys) a (inr i) c =
    let t = and_parts (splits_all y.0 ys) (apart ys) a in
    cond_false (is_cut s y.0) (Some y.1) (function_of_word ys s) (not_cut s y.0 x.0 (splits_listed y.0 x ys t.0 i) c)
    ∙ called_finds s x ys t.1 i c

called_append : (s : List ℕ) (t u : List FunctionWord)
    → function_of_word (t ++ u) s ≡ or_function (function_of_word t s) (function_of_word u s)
called_append s [] u = refl
called_append s (x ∷ t) u = elim (bool_tells (is_cut s x.0)) [
  | inl y ↦ cond_true (is_cut s x.0) _ _ y ∙ ap (λ (o : Option Function). or_function o (function_of_word u s))
      (sym (cond_true (is_cut s x.0) (Some x.1) (function_of_word t s) y))
  | inr n ↦ cond_false (is_cut s x.0) _ _ n ∙ called_append s t u
      ∙ ap (λ (o : Option Function). or_function o (function_of_word u s))
      (sym (cond_false (is_cut s x.0) (Some x.1) (function_of_word t s) n))
]

named_all : (s : List ℕ) → function_of_word function_words s ≡ function_named s
unfolding function_named
named_all s =
    let dates : List FunctionWord = of_dates ++ of_tables in
    let numbers : List FunctionWord = of_numbers ++ dates in
    let bytes : List FunctionWord = of_bytes ++ numbers in
    let parts : List FunctionWord = of_parts ++ bytes in
    called_append s of_texts parts ∙ ap (or_function (function_of_word of_texts s))
    (called_append s of_parts bytes ∙ ap (or_function (function_of_word of_parts s))
    (called_append s of_bytes numbers ∙ ap (or_function (function_of_word of_bytes s))
    (called_append s of_numbers dates ∙ ap (or_function (function_of_word of_numbers s))
    (called_append s of_dates of_tables))))

all_apart : apart function_words ≡ true
unfolding splits
all_apart = refl

pub names : (s : List ℕ) (x : FunctionWord) → IsOneOf x function_words → is_cut s x.0 ≡ true
    → function_named s ≡ Some x.1
names s x i c = sym (named_all s) ∙ called_finds s x function_words all_apart i c
