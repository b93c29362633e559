-- The two words that hold a number: the magnitude, and the form. The form is the decimals, and 16 more below zero; that
-- of the asterisk value is 32.
use Rattle.std.specs.Prelude.{◌≡◌, ℕ, zero, suc, ◌+◌, ◌%◌, ◌<◌, ◌≤◌, pos, negsuc, Bool, true, false, ◌&&◌, ◌==◌}
use Rattle.std.specs.Prelude.{nat_lt, nat_le, if◌then◌else◌, Option, Some, None, refl}
use Rattle.std.specs.Ordering.{int_eq}
use Rattle.std.specs.Cmp.{IsEquivalence, signed_Decides, unsigned_Decides}
use Rattle.std.proofs.Common.{sym, ap, ap₂, ◌∙◌, subst, ⊎_elim, arith}
use Rattle.std.proofs.lemmas.Bool.{false≢true, lt-ltb, le-ltb, cases_lt}
use Rattle.std.proofs.lemmas.Bool.Decides.{nat_tests}
use Rattle.fixed_num.specs.declared.number.Parts.{Parts}
use Rattle.fixed_num.specs.Number.{Number, asterisk, finite, signed, number_of, magnitude_limit}

-- the parts that two words hold
abbrev pub parts_in_words : ℕ → ℕ → Option Parts
parts_in_words magnitude form =
    if nat_lt form 32 then Some (record { magnitude = magnitude; decimals = form % 16; negative = nat_le 16 form })
    else None

-- the magnitude and the form are in range, zero has no sign, and the asterisk value has one magnitude
pub record AreWords (magnitude form : ℕ) : Type 0 where
  pub magnitude_fits : magnitude < magnitude_limit
  pub form_fits : form ≤ 32
  pub zero_unsigned : 16 ≤ form → form < 32 → 0 < magnitude
  pub none_is_zero : form ≡ 32 → magnitude ≡ 0

-- the first word of a number
abbrev pub magnitude_of : Number → ℕ
magnitude_of asterisk = 0
magnitude_of (finite (pos m) d) = m
magnitude_of (finite (negsuc m) d) = suc m

-- the second word of a number
abbrev pub form_of : Number → ℕ
form_of asterisk = 32
form_of (finite (pos m) d) = d
form_of (finite (negsuc m) d) = 16 + d

-- both words of a number that is made of them
pub words-above : (m d : ℕ) → (magnitude_of (finite (signed false m) d) ≡ m) × (form_of (finite (signed false m) d) ≡ d)
words-above m d = (refl, refl)

pub words-below : (m d : ℕ) → 0 < m
    → (magnitude_of (finite (signed true m) d) ≡ m) × (form_of (finite (signed true m) d) ≡ 16 + d)
words-below zero d some = absurd (omega arith)
words-below (suc m) d some = (refl, refl)

-- the two words of the number that two words hold
abbrev pub WordsBack : ℕ → ℕ → Option Parts → Type 0
WordsBack m f parts = (magnitude_of (number_of parts) ≡ m) × (form_of (number_of parts) ≡ f)

pub words_back : (m f : ℕ) → AreWords m f → WordsBack m f (parts_in_words m f)
words_back m f h = ⊎_elim
    (λ some.
    let P : Bool → Type 0 = λ b. WordsBack m f
    (if b then Some (record { magnitude = m; decimals = f % 16; negative = nat_le 16 f }) else None) in
    subst P (sym (lt-ltb f 32 some)) (⊎_elim
    (λ above.
    let Q : Bool → Type 0 = λ b. WordsBack m f (Some (record { magnitude = m; decimals = f % 16; negative = b })) in
    let is : nat_le 16 f ≡ false = grind (arith, nat_tests) in
    let e : f % 16 ≡ f = omega arith in
    subst Q (sym is) (let w = words-above m (f % 16) in (w.0, w.1 ∙ e)))
    (λ below.
    let Q : Bool → Type 0 = λ b. WordsBack m f (Some (record { magnitude = m; decimals = f % 16; negative = b })) in
    let is : nat_le 16 f ≡ true = grind (arith, nat_tests) in
    let e : 16 + f % 16 ≡ f = omega arith in
    subst Q (sym is) (let w = words-below m (f % 16) (h.zero_unsigned below some) in (w.0, w.1 ∙ e)))
    (cases_lt f 16)))
    (λ none.
    let P : Bool → Type 0 = λ b. WordsBack m f
    (if b then Some (record { magnitude = m; decimals = f % 16; negative = nat_le 16 f }) else None) in
    let e : f ≡ 32 = omega (arith, h.form_fits) in
    subst P (sym (le-ltb f 32 none)) (sym (h.none_is_zero e), sym e))
    (cases_lt f 32)

-- one number, with as many decimals
abbrev pub is_same_number : Number → Number → Bool
is_same_number asterisk asterisk = true
is_same_number (finite m d) (finite n e) = int_eq m n && (d == e)
is_same_number _ _ = false

-- both are true where their AND is
pub both_true : (a b : Bool) → (a && b) ≡ true → (a ≡ true) × (b ≡ true)
both_true true b h = (refl, h)
both_true false b h = absurd (false≢true h)

-- it holds of one number alone
pub is_same_number-true : (x y : Number) → is_same_number x y ≡ true → x ≡ y
is_same_number-true asterisk asterisk h = refl
is_same_number-true asterisk (finite n e) h = absurd (false≢true h)
is_same_number-true (finite m d) asterisk h = absurd (false≢true h)
is_same_number-true (finite m d) (finite n e) h =
    let both = both_true (int_eq m n) (d == e) h in
    ap₂ finite ((signed_Decides m n).0 both.0) ((unsigned_Decides d e).0 both.1)

pub is_same_number-refl : (x : Number) → is_same_number x x ≡ true
is_same_number-refl asterisk = refl
is_same_number-refl (finite m d) =
    ap₂ (λ a b. a && b) ((signed_Decides m m).1 refl) ((unsigned_Decides d d).1 refl)

is_same_number-turned : (x y : Number) (a b : Bool) → is_same_number x y ≡ a → is_same_number y x ≡ b → a ≡ b
is_same_number-turned x y true true h g = refl
is_same_number-turned x y false false h g = refl
is_same_number-turned x y true false h g =
    sym (is_same_number-refl x) ∙ ap (λ z. is_same_number z x) (is_same_number-true x y h) ∙ g
is_same_number-turned x y false true h g =
    sym h ∙ ap (λ z. is_same_number x z) (is_same_number-true y x g) ∙ is_same_number-refl x

pub is_same_number-laws : IsEquivalence is_same_number
is_same_number-laws = record {
  refl = is_same_number-refl;
  symm = λ x y. is_same_number-turned x y (is_same_number x y) (is_same_number y x) refl refl;
  congr = λ x y z h. ap (λ w. is_same_number w z) (is_same_number-true x y h);
}
