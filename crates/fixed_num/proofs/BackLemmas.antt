-- A number's text is read as that number.
use Rattle.std.proofs.Common.{◌≡◌, ℕ, zero, suc, ◌+◌, ◌-◌, ◌*◌, ◌/◌, ◌%◌, ◌^◌, ◌<◌, ◌≤◌, Bool, true, false, not, ◌&&◌}
use Rattle.std.proofs.Common.{◌==◌, List, [], ◌∷◌, ◌++◌, length, reverse, refl, sym, ap, ◌∙◌, subst, arith}
use Rattle.std.specs.Prelude.{ℤ, pos, negsuc, unsigned_abs, nat_lt, if◌then◌else◌}
use Rattle.std.proofs.Math.Nat.{mod-lt, mod-eq_of_lt, div-add-mod', div-le_self, one-le-pow, pow-suc, mul-le-mul_right}
use Rattle.std.proofs.lemmas.Nat.{mod-mul-add}
use Rattle.std.proofs.lemmas.List.{reverse-append, reverse-reverse}
use Rattle.std.proofs.lemmas.Bool.{not-true, eqb-true, ne_eqb, lt-ltb}
use Rattle.std.proofs.lemmas.Bool.Decides.{nat_tests}
use Rattle.fixed_num.specs.Number.{asterisk, finite, signed, IsInRange, magnitude_limit, most_decimals}
use Rattle.fixed_num.specs.Arithmetic.{fitted}
use Rattle.fixed_num.specs.Text.{last_digits, without_zeros, whole_digits, decimals_text, text_of}
use Rattle.fixed_num.specs.Reading.{without_blanks, trimmed, before_point, after_point, is_digit, are_digits}
use Rattle.fixed_num.specs.Reading.{with_digits, is_numeral, numeral, unsigned_read, signed_read, parsed}
use Rattle.fixed_num.specs.Words.{both_true}
use Rattle.fixed_num.proofs.SignLemmas.{abs_signed}
use Rattle.fixed_num.proofs.ReadingLemmas.{with_digits-append, fitted_few}

-- a written digit is one
written_digit : (x : ℕ) → is_digit (48 + x % 10) ≡ true
written_digit x = let small : x % 10 < 10 = omega arith in grind (arith, nat_tests)

are_digits-last_digits : (k n : ℕ) → are_digits (last_digits k n) ≡ true
are_digits-last_digits zero n = refl
are_digits-last_digits (suc k) n = rw (written_digit (n / 10 ^ k)) (are_digits-last_digits k n)

length-last_digits : (k n : ℕ) → length (last_digits k n) ≡ k
length-last_digits zero n = refl
length-last_digits (suc k) n = ap suc (length-last_digits k n)

-- the last digits of a number, digit by digit
last_split : (n unit : ℕ) → 0 < unit → n % (unit * 10) ≡ n / unit % 10 * unit + n % unit
last_split n unit positive =
    let e : n / unit * unit + n % unit ≡ n = div-add-mod' n unit in
    let f : n / unit / 10 * 10 + n / unit % 10 ≡ n / unit = div-add-mod' (n / unit) 10 in
    let g : (n / unit / 10 * 10 + n / unit % 10) * unit ≡ n / unit * unit = ap (λ x. x * unit) f in
    let small : n % unit < unit = mod-lt n positive in
    let digit : n / unit % 10 * unit ≤ 9 * unit =
    mul-le-mul_right unit (let h : n / unit % 10 ≤ 9 = omega arith in h) in
    let whole : n ≡ n / unit / 10 * (unit * 10) + (n / unit % 10 * unit + n % unit) = omega arith in
    ap (λ x. x % (unit * 10)) whole ∙ mod-mul-add (n / unit / 10) (unit * 10) (n / unit % 10 * unit + n % unit)
    (omega arith)

pub with_digits-last_digits : (k v n : ℕ) → with_digits v (last_digits k n) ≡ v * 10 ^ k + n % 10 ^ k
with_digits-last_digits zero v n = omega arith
with_digits-last_digits (suc k) v n =
    let digit : 48 + n / 10 ^ k % 10 - 48 ≡ n / 10 ^ k % 10 = omega arith in
    let split : n % (10 ^ k * 10) ≡ n / 10 ^ k % 10 * 10 ^ k + n % 10 ^ k =
    last_split n (10 ^ k) (one-le-pow k 10 (omega arith)) in
    ap (λ x. with_digits (v * 10 + x) (last_digits k n)) digit ∙ with_digits-last_digits k (v * 10 + n / 10 ^ k % 10) n
    ∙ rw (pow-suc 10 k, split) (omega arith)

-- zeros in front change nothing
zero_in_front : (c e : ℕ) (cs : List ℕ) (b : Bool) → (c == 48) ≡ b
    → with_digits 0 (without_zeros (e ∷ cs)) ≡ with_digits 0 (e ∷ cs)
    → with_digits 0 (if b then without_zeros (e ∷ cs) else c ∷ (e ∷ cs)) ≡ with_digits 0 (c ∷ (e ∷ cs))
zero_in_front c e cs true h rest = rest ∙ ap (λ x. with_digits (0 * 10 + (x - 48)) (e ∷ cs)) (sym (eqb-true c 48 h))
zero_in_front c e cs false h rest = refl

with_digits-without_zeros : (ds : List ℕ) → with_digits 0 (without_zeros ds) ≡ with_digits 0 ds
with_digits-without_zeros [] = refl
with_digits-without_zeros (c ∷ []) = refl
with_digits-without_zeros (c ∷ (e ∷ cs)) = zero_in_front c e cs (c == 48) refl (with_digits-without_zeros (e ∷ cs))

either_digits : (xs ys : List ℕ) (b : Bool) → are_digits xs ≡ true → are_digits ys ≡ true
    → are_digits (if b then xs else ys) ≡ true
either_digits xs ys true h g = h
either_digits xs ys false h g = g

pub are_digits-rest : (c : ℕ) (cs : List ℕ) → are_digits (c ∷ cs) ≡ true → are_digits cs ≡ true
are_digits-rest c cs h = grind (arith, nat_tests)

pub are_digits-first : (c : ℕ) (cs : List ℕ) → are_digits (c ∷ cs) ≡ true → (48 ≤ c) × (c ≤ 57)
are_digits-first c cs h = (grind (arith, nat_tests), grind (arith, nat_tests))

are_digits-without_zeros : (ds : List ℕ) → are_digits ds ≡ true → are_digits (without_zeros ds) ≡ true
are_digits-without_zeros [] h = refl
are_digits-without_zeros (c ∷ []) h = h
are_digits-without_zeros (c ∷ (e ∷ cs)) h =
    either_digits (without_zeros (e ∷ cs)) (c ∷ (e ∷ cs)) (c == 48)
    (are_digits-without_zeros (e ∷ cs) (are_digits-rest c (e ∷ cs) h)) h

either_some : (xs ys : List ℕ) (b : Bool) → 0 < length xs → 0 < length ys → 0 < length (if b then xs else ys)
either_some xs ys true h g = h
either_some xs ys false h g = g

without_zeros-some : (c : ℕ) (cs : List ℕ) → 0 < length (without_zeros (c ∷ cs))
without_zeros-some c [] = omega arith
without_zeros-some c (e ∷ cs) =
    either_some (without_zeros (e ∷ cs)) (c ∷ (e ∷ cs)) (c == 48) (without_zeros-some e cs) (omega arith)

-- the digits before the point
whole_are_digits : (n : ℕ) → are_digits (whole_digits n) ≡ true
unfolding whole_digits
whole_are_digits n = are_digits-without_zeros (last_digits 19 n) (are_digits-last_digits 19 n)

whole_some : (n : ℕ) → 0 < length (whole_digits n)
unfolding whole_digits
whole_some n = without_zeros-some (48 + n / 10 ^ 18 % 10) (last_digits 18 n)

whole_value : (n : ℕ) → n < 10 ^ 19 → with_digits 0 (whole_digits n) ≡ n
unfolding whole_digits
whole_value n small =
    with_digits-without_zeros (last_digits 19 n) ∙ with_digits-last_digits 19 0 n
    ∙ (let h : 0 * 10 ^ 19 + n % 10 ^ 19 ≡ n = rw (mod-eq_of_lt small) (omega arith) in h)

-- no byte of a text is a blank
pub no_blanks : List ℕ → Bool
no_blanks [] = true
no_blanks (c ∷ cs) = not (c == 32) && no_blanks cs

no_blanks-append : (xs ys : List ℕ) → no_blanks xs ≡ true → no_blanks ys ≡ true → no_blanks (xs ++ ys) ≡ true
unfolding no_blanks
no_blanks-append [] ys h g = g
no_blanks-append (c ∷ cs) ys h g =
    let parts = both_true (not (c == 32)) (no_blanks cs) h in
    ap (λ b. b && no_blanks (cs ++ ys)) parts.0 ∙ no_blanks-append cs ys parts.1 g

pub without_blanks-none : (xs : List ℕ) → no_blanks xs ≡ true → without_blanks xs ≡ xs
unfolding no_blanks
without_blanks-none [] h = refl
without_blanks-none (c ∷ cs) h =
    let parts = both_true (not (c == 32)) (no_blanks cs) h in
    ap (λ b. if b then without_blanks cs else c ∷ cs) (not-true (c == 32) parts.0)

pub no_blanks-reverse : (xs : List ℕ) → no_blanks xs ≡ true → no_blanks (reverse xs) ≡ true
unfolding no_blanks
no_blanks-reverse [] h = refl
no_blanks-reverse (c ∷ cs) h =
    let parts = both_true (not (c == 32)) (no_blanks cs) h in
    ap no_blanks (reverse-append (c ∷ []) cs) ∙ no_blanks-append (reverse cs) (c ∷ []) (no_blanks-reverse cs parts.1)
    (ap (λ b. b && true) parts.0)

pub no_blanks-digits : (xs : List ℕ) → are_digits xs ≡ true → no_blanks xs ≡ true
unfolding no_blanks
no_blanks-digits [] h = refl
no_blanks-digits (c ∷ cs) h =
    let bounds = are_digits-first c cs h in
    let other : (c == 32) ≡ false = ne_eqb c 32 (λ e. absurd (omega (arith, bounds.0))) in
    ap (λ b. not b && no_blanks cs) other ∙ no_blanks-digits cs (are_digits-rest c cs h)

no_blanks-decimals : (d n : ℕ) → no_blanks (decimals_text d n) ≡ true
unfolding no_blanks
no_blanks-decimals zero n = refl
no_blanks-decimals (suc k) n = no_blanks-digits (last_digits (suc k) n) (are_digits-last_digits (suc k) n)

trimmed-none : (xs : List ℕ) → no_blanks xs ≡ true → trimmed xs ≡ xs
trimmed-none xs h =
    ap (λ ys. reverse (without_blanks (reverse ys))) (without_blanks-none xs h)
    ∙ ap reverse (without_blanks-none (reverse xs) (no_blanks-reverse xs h)) ∙ reverse-reverse xs

-- the point parts a text
before_point-digits : (xs : List ℕ) (d n : ℕ) → are_digits xs ≡ true → before_point (xs ++ decimals_text d n) ≡ xs
before_point-digits [] zero n h = refl
before_point-digits [] (suc k) n h = refl
before_point-digits (c ∷ cs) d n h =
    let bounds = are_digits-first c cs h in
    let other : (c == 46) ≡ false = ne_eqb c 46 (λ e. absurd (omega (arith, bounds.0))) in
    let P : Bool → Type 0 = λ b. (if b then [] else c ∷ before_point (cs ++ decimals_text d n)) ≡ c ∷ cs in
    subst P (sym other) (ap (λ ys. c ∷ ys) (before_point-digits cs d n (are_digits-rest c cs h)))

after_point-digits : (xs : List ℕ) (d n : ℕ) → are_digits xs ≡ true
    → after_point (xs ++ decimals_text d n) ≡ last_digits d n
after_point-digits [] zero n h = refl
after_point-digits [] (suc k) n h = refl
after_point-digits (c ∷ cs) d n h =
    let bounds = are_digits-first c cs h in
    let other : (c == 46) ≡ false = ne_eqb c 46 (λ e. absurd (omega (arith, bounds.0))) in
    let P : Bool → Type 0 =
    λ b. (if b then cs ++ decimals_text d n else after_point (cs ++ decimals_text d n)) ≡ last_digits d n in
    subst P (sym other) (after_point-digits cs d n (are_digits-rest c cs h))

-- a numeral's number
numeral-of_digits : (s : Bool) (whole fraction : List ℕ) → 0 < length whole → are_digits whole ≡ true
    → are_digits fraction ≡ true → numeral s whole fraction ≡ fitted (signed s (with_digits 0 (whole ++ fraction)))
    (length fraction)
numeral-of_digits s whole fraction some h g =
    let some_digit : nat_lt 0 (length whole + length fraction) ≡ true =
    lt-ltb 0 (length whole + length fraction) (omega arith) in
    let test : is_numeral whole fraction ≡ true = rw (some_digit, h, g) refl in
    let P : Bool → Type 0 = λ b. (if b then fitted (signed s (with_digits 0 (whole ++ fraction))) (length fraction)
    else asterisk) ≡ fitted (signed s (with_digits 0 (whole ++ fraction))) (length fraction) in
    subst P (sym test) refl

-- a text without its sign
unsigned_back : (s : Bool) (n d : ℕ) → n < magnitude_limit → d ≤ most_decimals
    → unsigned_read s (whole_digits (n / 10 ^ d) ++ decimals_text d n) ≡ finite (signed s n) d
unsigned_back s n d small few =
    let whole = whole_digits (n / 10 ^ d) in
    let fraction = last_digits d n in
    let digits = whole_are_digits (n / 10 ^ d) in
    let value : with_digits 0 (whole ++ fraction) ≡ n =
    with_digits-append 0 whole fraction
    ∙ ap (λ v. with_digits v fraction) (whole_value (n / 10 ^ d) (omega (arith, div-le_self n (10 ^ d))))
    ∙ with_digits-last_digits d (n / 10 ^ d) n
    ∙ div-add-mod' n (10 ^ d) in
    let fits : nat_lt (unsigned_abs (signed s n)) magnitude_limit ≡ true =
    rw (abs_signed s n) (lt-ltb n magnitude_limit small) in
    ap (λ w. numeral s w (after_point (whole ++ decimals_text d n))) (before_point-digits whole d n digits)
    ∙ ap (λ f. numeral s whole f) (after_point-digits whole d n digits)
    ∙ numeral-of_digits s whole fraction (whole_some (n / 10 ^ d)) digits (are_digits-last_digits d n)
    ∙ ap (λ v. fitted (signed s v) (length fraction)) value
    ∙ ap (fitted (signed s n)) (length-last_digits d n)
    ∙ sym (fitted_few (signed s n) d few)
    ∙ ap (λ b. if b then finite (signed s n) d else asterisk) fits

-- a text that begins with a digit has no sign
unsigned_first : (xs ys : List ℕ) → 0 < length xs → are_digits xs ≡ true
    → signed_read (xs ++ ys) ≡ unsigned_read false (xs ++ ys)
unsigned_first [] ys some h = absurd (omega arith)
unsigned_first (c ∷ cs) ys some h =
    let bounds = are_digits-first c cs h in
    let no_minus : (c == 45) ≡ false = ne_eqb c 45 (λ e. absurd (omega (arith, bounds.0))) in
    let no_plus : (c == 43) ≡ false = ne_eqb c 43 (λ e. absurd (omega (arith, bounds.0))) in
    let P : Bool → Type 0 = λ b. (if b then unsigned_read true (cs ++ ys)
    else (if c == 43 then unsigned_read false (cs ++ ys) else unsigned_read false (c ∷ (cs ++ ys))))
    ≡ unsigned_read false (c ∷ (cs ++ ys)) in
    let Q : Bool → Type 0 = λ b. (if b then unsigned_read false (cs ++ ys) else unsigned_read false (c ∷ (cs ++ ys)))
    ≡ unsigned_read false (c ∷ (cs ++ ys)) in
    subst P (sym no_minus) (subst Q (sym no_plus) refl)

no_blanks-body : (n d : ℕ) → no_blanks (whole_digits (n / 10 ^ d) ++ decimals_text d n) ≡ true
no_blanks-body n d = no_blanks-append (whole_digits (n / 10 ^ d)) (decimals_text d n)
    (no_blanks-digits (whole_digits (n / 10 ^ d)) (whole_are_digits (n / 10 ^ d))) (no_blanks-decimals d n)

no_blanks-signed : (xs : List ℕ) → no_blanks xs ≡ true → no_blanks (45 ∷ xs) ≡ true
unfolding no_blanks
no_blanks-signed xs h = h

pub parsed-text_of : (m : ℤ) (d : ℕ) → IsInRange (finite m d) → parsed (text_of (finite m d)) ≡ finite m d
parsed-text_of (pos n) d range =
    let body = whole_digits (n / 10 ^ d) ++ decimals_text d n in
    ap signed_read (trimmed-none body (no_blanks-body n d))
    ∙ unsigned_first (whole_digits (n / 10 ^ d)) (decimals_text d n) (whole_some (n / 10 ^ d))
    (whole_are_digits (n / 10 ^ d))
    ∙ unsigned_back false n d range.0 range.1
parsed-text_of (negsuc n) d range =
    let body = whole_digits (suc n / 10 ^ d) ++ decimals_text d (suc n) in
    ap signed_read (trimmed-none (45 ∷ body) (no_blanks-signed body (no_blanks-body (suc n) d)))
    ∙ unsigned_back true (suc n) d range.0 range.1
