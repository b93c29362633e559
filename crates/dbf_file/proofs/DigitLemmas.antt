-- The number of a text that has digits alone behind blanks.
use Rattle.std.proofs.Common.{◌≡◌, ℕ, ◌+◌, ◌^◌, ◌<◌, Bool, true, false, ◌&&◌, ◌==◌, List, [], ◌∷◌, ◌++◌}
use Rattle.std.proofs.Common.{length, reverse, refl, sym, ap, ◌∙◌, subst, arith}
use Rattle.std.specs.Prelude.{pos, nat_lt, min, if◌then◌else◌}
use Rattle.std.proofs.lemmas.List.{reverse-reverse, append-nil}
use Rattle.std.proofs.lemmas.Bool.{ne_eqb, lt-ltb}
use Rattle.fixed_num.specs.Number.{asterisk, finite, signed, magnitude_limit}
use Rattle.fixed_num.specs.Arithmetic.{fitted}
use Rattle.fixed_num.specs.Reading.{without_blanks, before_point, after_point, are_digits, with_digits, is_numeral}
use Rattle.fixed_num.specs.Reading.{numeral, unsigned_read, signed_read, parsed}
use Rattle.fixed_num.proofs.BackLemmas.{are_digits-rest, are_digits-first, without_blanks-none, no_blanks-reverse}
use Rattle.fixed_num.proofs.BackLemmas.{no_blanks-digits}
use Rattle.dbf_file.specs.Values.{is_all_blanks, number_in}

-- a digit is no byte below it
other_than : (c : ℕ) (cs : List ℕ) (byte : ℕ) → byte < 48 → are_digits (c ∷ cs) ≡ true → (c == byte) ≡ false
other_than c cs byte low h =
    let bounds = are_digits-first c cs h in ne_eqb c byte (λ e. absurd (omega (arith, bounds.0, low)))

no_blanks_behind : (xs : List ℕ) → are_digits xs ≡ true → reverse (without_blanks (reverse xs)) ≡ xs
no_blanks_behind xs h =
    ap reverse (without_blanks-none (reverse xs) (no_blanks-reverse xs (no_blanks-digits xs h))) ∙ reverse-reverse xs

-- digits have no point
before_digits : (xs : List ℕ) → are_digits xs ≡ true → before_point xs ≡ xs
before_digits [] h = refl
before_digits (c ∷ cs) h =
    let P : Bool → Type 0 = λ b. (if b then [] else c ∷ before_point cs) ≡ c ∷ cs in
    subst P (sym (other_than c cs 46 (omega arith) h)) (ap (λ ys. c ∷ ys) (before_digits cs (are_digits-rest c cs h)))

after_digits : (xs : List ℕ) → are_digits xs ≡ true → after_point xs ≡ []
after_digits [] h = refl
after_digits (c ∷ cs) h =
    let P : Bool → Type 0 = λ b. (if b then cs else after_point cs) ≡ [] in
    subst P (sym (other_than c cs 46 (omega arith) h)) (after_digits cs (are_digits-rest c cs h))

-- and no sign
unsigned : (xs : List ℕ) → 0 < length xs → are_digits xs ≡ true → signed_read xs ≡ unsigned_read false xs
unsigned [] some h = absurd (omega arith)
unsigned (c ∷ cs) some h =
    let P : Bool → Type 0 = λ b.
    (if b then unsigned_read true cs else (if c == 43 then unsigned_read false cs else unsigned_read false
    (c ∷ cs))) ≡ unsigned_read false (c ∷ cs) in
    let Q : Bool → Type 0 =
    λ b. (if b then unsigned_read false cs else unsigned_read false (c ∷ cs)) ≡ unsigned_read false (c ∷ cs) in
    subst P (sym (other_than c cs 45 (omega arith) h)) (subst Q (sym (other_than c cs 43 (omega arith) h)) refl)

numeral_of_digits : (xs : List ℕ) → 0 < length xs → are_digits xs ≡ true → with_digits 0 xs < 10 ^ 18
    → numeral false xs [] ≡ finite (pos (with_digits 0 xs)) 0
numeral_of_digits xs some h small =
    let some_digit : nat_lt 0 (length xs + 0) ≡ true = lt-ltb 0 (length xs + 0) (omega arith) in
    let test : is_numeral xs [] ≡ true = rw (some_digit, h) refl in
    let P : Bool → Type 0 = λ b. (if b then fitted (signed false (with_digits 0 (xs ++ []))) 0 else asterisk)
    ≡ finite (pos (with_digits 0 xs)) 0 in
    let fits : nat_lt (with_digits 0 xs) magnitude_limit ≡ true =
    lt-ltb (with_digits 0 xs) magnitude_limit (omega (arith, small)) in
    subst P (sym test)
    (ap (λ ys. fitted (signed false (with_digits 0 ys)) 0) (append-nil xs)
    ∙ ap (λ b. if b then finite (pos (with_digits 0 xs)) 0 else asterisk) fits)

digits_read : (text digits : List ℕ) → without_blanks text ≡ digits → 0 < length digits → are_digits digits ≡ true
    → with_digits 0 digits < 10 ^ 18 → parsed text ≡ finite (pos (with_digits 0 digits)) 0
digits_read text digits e some h small =
    ap (λ (xs : List ℕ). signed_read (reverse (without_blanks (reverse xs)))) e
    ∙ ap signed_read (no_blanks_behind digits h)
    ∙ unsigned digits some h
    ∙ ap (λ (xs : List ℕ). numeral false xs (after_point digits)) (before_digits digits h)
    ∙ ap (numeral false digits) (after_digits digits h)
    ∙ numeral_of_digits digits some h small

-- a text with anything behind its blanks isn't blank
some_behind : (text : List ℕ) → 0 < length (without_blanks text) → is_all_blanks text ≡ false
some_behind [] h = absurd (omega arith)
some_behind (c ∷ cs) h = by (c == 32) (some_behind cs) h
  where
    by : (b : Bool) → (0 < length (without_blanks cs) → is_all_blanks cs ≡ false)
        → 0 < length (if b then without_blanks cs else c ∷ cs) → (b && is_all_blanks cs) ≡ false
    by true next h = next h
    by false next h = refl

pub field_of_digits : (decimals : ℕ) (text digits : List ℕ) → without_blanks text ≡ digits → 0 < length digits
    → are_digits digits ≡ true → with_digits 0 digits < 10 ^ 18 → number_in decimals text
    ≡ finite (pos (with_digits 0 digits)) 0
field_of_digits decimals text digits e some h small =
    ap (λ b. if b then finite (pos 0) (min decimals 15) else parsed text)
    (some_behind text (subst (λ (xs : List ℕ). 0 < length xs) (sym e) some))
    ∙ digits_read text digits e some h small
