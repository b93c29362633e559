-- The number with which a text begins is that of its longest beginning which is a number.
use Rattle.std.proofs.Common.{◌≡◌, ℕ, zero, suc, ◌+◌, ◌<◌, ◌≤◌, Bool, true, false, ◌&&◌, List, [], ◌∷◌, length, take}
use Rattle.std.proofs.Common.{refl, sym, ap, ◌∙◌, subst, ◌==◌, nat_lt, length-take, arith, inl, inr}
use Rattle.std.specs.Prelude.{pos, if◌then◌else◌}
use Rattle.std.proofs.lemmas.Bool.{false≢true, ne_eqb, lt-ltb, cases_lt}
use Rattle.std.proofs.lemmas.Bool.Decides.{nat_tests}
use Rattle.fixed_num.specs.Number.{Number, finite}
use Rattle.fixed_num.specs.Reading.{without_blanks, before_point, after_point, is_digit, are_digits, is_numeral}
use Rattle.fixed_num.specs.Reading.{numeral, unsigned_read, signed_read, digits_in_front, behind_digits}
use Rattle.fixed_num.specs.Reading.{decimals_in_front, unsigned_prefix, signed_prefix, prefix_read}
use Rattle.fixed_num.specs.Prefixes.{is_unsigned, is_signed, HasNone, IsOfLongest}

by_test : {P : Type 0} (b : Bool) → (b ≡ true → P) → (b ≡ false → P) → P
by_test true f g = f refl
by_test false f g = g refl

and_false : (b : Bool) → (b && false) ≡ false
and_false true = refl
and_false false = refl

digit_no_point : (c : ℕ) → is_digit c ≡ true → (c == 46) ≡ false
digit_no_point c h =
    let low : 48 ≤ c = grind (arith, nat_tests) in
    ne_eqb c 46 (λ e. omega (arith, e, low))

-- digits in front, byte by byte

front_if : (c : ℕ) (cs : List ℕ) → is_digit c ≡ true → digits_in_front (c ∷ cs) ≡ c ∷ digits_in_front cs
front_if c cs h = ap (λ b. if b then c ∷ digits_in_front cs else []) h

front_else : (c : ℕ) (cs : List ℕ) → is_digit c ≡ false → digits_in_front (c ∷ cs) ≡ []
front_else c cs h = ap (λ b. if b then c ∷ digits_in_front cs else []) h

behind_if : (c : ℕ) (cs : List ℕ) → is_digit c ≡ true → behind_digits (c ∷ cs) ≡ behind_digits cs
behind_if c cs h = ap (λ b. if b then behind_digits cs else c ∷ cs) h

behind_else : (c : ℕ) (cs : List ℕ) → is_digit c ≡ false → behind_digits (c ∷ cs) ≡ c ∷ cs
behind_else c cs h = ap (λ b. if b then behind_digits cs else c ∷ cs) h

decimals_if : (c : ℕ) (cs : List ℕ) → is_digit c ≡ false → (c == 46) ≡ true
    → decimals_in_front (behind_digits (c ∷ cs)) ≡ digits_in_front cs
decimals_if c cs h p = ap decimals_in_front (behind_else c cs h) ∙ ap (λ b. if b then digits_in_front cs else []) p

decimals_else : (c : ℕ) (cs : List ℕ) → is_digit c ≡ false → (c == 46) ≡ false
    → decimals_in_front (behind_digits (c ∷ cs)) ≡ []
decimals_else c cs h p = ap decimals_in_front (behind_else c cs h) ∙ ap (λ b. if b then digits_in_front cs else []) p

front_take : (cs : List ℕ) → take (length (digits_in_front cs)) cs ≡ digits_in_front cs
front_take [] = refl
front_take (c ∷ cs) = by_test (is_digit c)
    (λ h. subst (λ ds. take (length ds) (c ∷ cs) ≡ ds) (sym (front_if c cs h)) (ap (λ ds. c ∷ ds) (front_take cs)))
    (λ h. subst (λ ds. take (length ds) (c ∷ cs) ≡ ds) (sym (front_else c cs h)) refl)

front_digits : (cs : List ℕ) → are_digits (digits_in_front cs) ≡ true
front_digits [] = refl
front_digits (c ∷ cs) = by_test (is_digit c)
    (λ h. ap are_digits (front_if c cs h) ∙ ap (λ b. b && are_digits (digits_in_front cs)) h ∙ front_digits cs)
    (λ h. ap are_digits (front_else c cs h))

decimals_digits : (cs : List ℕ) → are_digits (decimals_in_front cs) ≡ true
decimals_digits [] = refl
decimals_digits (c ∷ cs) = by_test (c == 46)
    (λ p. ap (λ b. are_digits (if b then digits_in_front cs else [])) p ∙ front_digits cs)
    (λ p. ap (λ b. are_digits (if b then digits_in_front cs else [])) p)

one_less : (m n k : ℕ) → m ≡ suc n → m < suc k → n < k
one_less m n k e h = omega (arith, e, h)

fewer : (k n : ℕ) → suc k ≤ suc n → k ≤ n
fewer k n h = omega (arith, h)

-- one byte more than the digits in front are no digits
front_over : (cs : List ℕ) (k : ℕ) → length (digits_in_front cs) < k → k ≤ length cs → are_digits (take k cs) ≡ false
front_over cs zero less few = absurd (omega (arith, less))
front_over [] (suc k) less few = absurd (omega (arith, few))
front_over (c ∷ cs) (suc k) less few = by_test (is_digit c)
    (λ h. ap (λ b. b && are_digits (take k cs)) h ∙ front_over cs k
    (one_less (length (digits_in_front (c ∷ cs))) (length (digits_in_front cs)) k (ap length (front_if c cs h))
    less) (fewer k (length cs) few))
    (λ h. ap (λ b. b && are_digits (take k cs)) h)

-- digits alone before and after the point
abbrev both_digits : List ℕ → Bool
both_digits t = are_digits (before_point t) && are_digits (after_point t)

-- how many bytes stand before and after the point
abbrev size_of : List ℕ → ℕ
size_of t = length (before_point t) + length (after_point t)

-- the digits with a point with which a text begins are its first `n` bytes
record Scan (cs : List ℕ) (n : ℕ) : Type 0 where
  before : before_point (take n cs) ≡ digits_in_front cs
  after : after_point (take n cs) ≡ decimals_in_front (behind_digits cs)
  over : (k : ℕ) → n < k → k ≤ length cs → both_digits (take k cs) ≡ false
  under : (k : ℕ) → k ≤ n → size_of (take k cs) ≤ length (digits_in_front cs) + length
      (decimals_in_front (behind_digits cs))

-- a byte before a text
size_no_point : (c : ℕ) (t : List ℕ) → (c == 46) ≡ false → size_of (c ∷ t) ≡ suc (size_of t)
size_no_point c t p =
    ap (λ b. length (if b then [] else c ∷ before_point t) + length (if b then t else after_point t)) p
    ∙ (let h : suc (length (before_point t)) + length (after_point t)
    ≡ suc (length (before_point t) + length (after_point t)) = omega arith in h)

size_point : (c : ℕ) (t : List ℕ) → (c == 46) ≡ true → size_of (c ∷ t) ≡ length t
size_point c t p =
    ap (λ b. length (if b then [] else c ∷ before_point t) + length (if b then t else after_point t)) p
    ∙ (let h : 0 + length t ≡ length t = omega arith in h)

digits_no_point : (c : ℕ) (t : List ℕ) → (c == 46) ≡ false → both_digits (c ∷ t)
    ≡ ((is_digit c && are_digits (before_point t)) && are_digits (after_point t))
digits_no_point c t p =
    ap (λ b. are_digits (if b then [] else c ∷ before_point t) && are_digits (if b then t else after_point t)) p

digits_point : (c : ℕ) (t : List ℕ) → (c == 46) ≡ true → both_digits (c ∷ t) ≡ are_digits t
digits_point c t p = ap (λ b. are_digits (if b then [] else c ∷ before_point t) && are_digits
    (if b then t else after_point t)) p

grown : (s t w f v : ℕ) → s ≡ suc t → v ≡ suc w → t ≤ w + f → s ≤ v + f
grown s t w f v e g h = omega (arith, e, g, h)

at_digit : (c : ℕ) (cs : List ℕ) (n : ℕ) → is_digit c ≡ true → (c == 46) ≡ false → Scan cs n → Scan (c ∷ cs) (suc n)
at_digit c cs n h p s = record {
  before = ap (λ b. if b then [] else c ∷ before_point (take n cs)) p ∙ ap (λ ds. c ∷ ds) s.before
      ∙ sym (front_if c cs h);
  after = ap (λ b. if b then take n cs else after_point (take n cs)) p ∙ s.after
      ∙ ap decimals_in_front (sym (behind_if c cs h));
  over = over;
  under = under;
}
  where
    over : (k : ℕ) → suc n < k → k ≤ length (c ∷ cs) → both_digits (take k (c ∷ cs)) ≡ false
    over zero less few = absurd (omega (arith, less))
    over (suc k) less few =
        digits_no_point c (take k cs) p ∙ ap
        (λ b. (b && are_digits (before_point (take k cs))) && are_digits (after_point (take k cs))) h
        ∙ s.over k (one_less (suc n) n k refl less) (fewer k (length cs) few)

    under : (k : ℕ) → k ≤ suc n → size_of (take k (c ∷ cs)) ≤ length (digits_in_front (c ∷ cs)) + length
        (decimals_in_front (behind_digits (c ∷ cs)))
    under zero few = omega arith
    under (suc k) few =
        subst (λ ds. size_of (take (suc k) (c ∷ cs)) ≤ length (digits_in_front (c ∷ cs)) + length
        (decimals_in_front ds)) (sym (behind_if c cs h))
        (grown (size_of (take (suc k) (c ∷ cs))) (size_of (take k cs)) (length (digits_in_front cs))
        (length (decimals_in_front (behind_digits cs))) (length (digits_in_front (c ∷ cs)))
        (size_no_point c (take k cs) p) (ap length (front_if c cs h)) (s.under k (fewer k n few)))

taken : (s t k n f w : ℕ) → s ≡ t → t ≤ k → k ≤ n → f ≡ n → s ≤ w + f
taken s t k n f w e a b g = omega (arith, e, a, b, g)

length_taken : (k : ℕ) (cs : List ℕ) → length (take k cs) ≤ k
length_taken k cs = omega (arith, length-take k cs)

at_point : (c : ℕ) (cs : List ℕ) → is_digit c ≡ false → (c == 46) ≡ true
    → Scan (c ∷ cs) (suc (length (digits_in_front cs)))
at_point c cs h p = record {
  before = ap (λ b. if b then [] else c ∷ before_point (take (length (digits_in_front cs)) cs)) p
      ∙ sym (front_else c cs h);
  after = ap (λ b. if b then take (length (digits_in_front cs)) cs else after_point
      (take (length (digits_in_front cs)) cs)) p ∙ front_take cs ∙ sym (decimals_if c cs h p);
  over = over;
  under = under;
}
  where
    over : (k : ℕ) → suc (length (digits_in_front cs)) < k → k ≤ length (c ∷ cs) → both_digits (take k (c ∷ cs)) ≡ false
    over zero less few = absurd (omega (arith, less))
    over (suc k) less few =
        digits_point c (take k cs) p ∙ front_over cs k
        (one_less (suc (length (digits_in_front cs))) (length (digits_in_front cs)) k refl less)
        (fewer k (length cs) few)

    under : (k : ℕ) → k ≤ suc (length (digits_in_front cs)) → size_of (take k (c ∷ cs))
        ≤ length (digits_in_front (c ∷ cs)) + length (decimals_in_front (behind_digits (c ∷ cs)))
    under zero few = omega arith
    under (suc k) few =
        taken (size_of (take (suc k) (c ∷ cs))) (length (take k cs)) k (length (digits_in_front cs))
        (length (decimals_in_front (behind_digits (c ∷ cs)))) (length (digits_in_front (c ∷ cs)))
        (size_point c (take k cs) p) (length_taken k cs) (fewer k (length (digits_in_front cs)) few)
        (ap length (decimals_if c cs h p))

at_other : (c : ℕ) (cs : List ℕ) → is_digit c ≡ false → (c == 46) ≡ false → Scan (c ∷ cs) 0
at_other c cs h p = record {
  before = sym (front_else c cs h);
  after = sym (decimals_else c cs h p);
  over = over;
  under = under;
}
  where
    over : (k : ℕ) → 0 < k → k ≤ length (c ∷ cs) → both_digits (take k (c ∷ cs)) ≡ false
    over zero less few = absurd (omega (arith, less))
    over (suc k) less few =
        digits_no_point c (take k cs) p ∙ ap
        (λ b. (b && are_digits (before_point (take k cs))) && are_digits (after_point (take k cs))) h

    under : (k : ℕ) → k ≤ 0 → size_of (take k (c ∷ cs)) ≤ length (digits_in_front (c ∷ cs)) + length
        (decimals_in_front (behind_digits (c ∷ cs)))
    under zero few = omega arith
    under (suc k) few = absurd (omega (arith, few))

scan : (cs : List ℕ) → (n : ℕ) × Scan cs n
scan [] = (
  0,
  record {
    before = refl;
    after = refl;
    over = λ k less few. absurd (let e : length {A = ℕ} [] ≡ 0 = refl in omega (arith, less, few, e));
    under = λ k few. no_bytes k;
  },
)
  where
    no_bytes : (k : ℕ) → size_of (take k []) ≤ 0 + 0
    no_bytes zero = omega arith
    no_bytes (suc k) = omega arith
scan (c ∷ cs) = more c cs (scan cs)
  where
    more : (c : ℕ) (cs : List ℕ) → ((n : ℕ) × Scan cs n) → (n : ℕ) × Scan (c ∷ cs) n
    more c cs s = by_test (is_digit c)
        (λ h. (suc s.0, at_digit c cs s.0 h (digit_no_point c h) s.1))
        (λ h. by_test (c == 46) (λ p. (suc (length (digits_in_front cs)), at_point c cs h p))
        (λ p. (0, at_other c cs h p)))

-- without a sign

some_size : (x : ℕ) → (x == 0) ≡ false → nat_lt 0 x ≡ true
some_size zero e = absurd (false≢true (sym e))
some_size (suc x) e = lt-ltb 0 (suc x) (omega arith)

no_size : (x : ℕ) → (x == 0) ≡ true → x ≡ 0
no_size zero e = refl
no_size (suc x) e = absurd (false≢true (sym (ne_eqb (suc x) 0 (λ same. omega (arith, same))) ∙ e))

none_smaller : (x y : ℕ) → x ≤ y → y ≡ 0 → nat_lt 0 x ≡ false
none_smaller zero y h e = refl
none_smaller (suc x) y h e = absurd (omega (arith, h, e))

numeral_there : (cs : List ℕ) (n : ℕ) → Scan cs n
    → (length (digits_in_front cs) + length (decimals_in_front (behind_digits cs)) == 0) ≡ false
    → is_unsigned (take n cs) ≡ true
numeral_there cs n s some =
    let w = digits_in_front cs in
    let f = decimals_in_front (behind_digits cs) in
    ap (λ b. is_numeral b (after_point (take n cs))) s.before
    ∙ ap (λ a. is_numeral w a) s.after
    ∙ ap (λ x. x && (are_digits w && are_digits f)) (some_size (length w + length f) some)
    ∙ ap (λ x. x && are_digits f) (front_digits cs)
    ∙ decimals_digits (behind_digits cs)

numeral_over : (t : List ℕ) → both_digits t ≡ false → is_unsigned t ≡ false
numeral_over t e = ap (λ x. nat_lt 0 (size_of t) && x) e ∙ and_false (nat_lt 0 (size_of t))

numeral_none : (t : List ℕ) → nat_lt 0 (size_of t) ≡ false → is_unsigned t ≡ false
numeral_none t e = ap (λ x. x && both_digits t) e

unsigned_value : (negative : Bool) (cs : List ℕ) (n : ℕ) → Scan cs n
    → unsigned_read negative (take n cs) ≡ numeral negative (digits_in_front cs) (decimals_in_front (behind_digits cs))
unsigned_value negative cs n s = ap (λ b. numeral negative b (after_point (take n cs))) s.before
    ∙ ap (λ a. numeral negative (digits_in_front cs) a) s.after

unsigned_longest : (negative : Bool) (cs : List ℕ) → IsOfLongest is_unsigned (unsigned_read negative) cs
    (unsigned_prefix negative cs)
unsigned_longest negative cs = of_scan (scan cs)
  where
    size : ℕ
    size = length (digits_in_front cs) + length (decimals_in_front (behind_digits cs))

    value : (b : Bool) → (size == 0) ≡ b → unsigned_prefix negative cs
        ≡ (if b then finite (pos 0) 0 else numeral negative (digits_in_front cs) (decimals_in_front (behind_digits cs)))
    value b e = ap (λ x. if x then finite (pos 0) 0 else numeral negative (digits_in_front cs)
        (decimals_in_front (behind_digits cs))) e

    none_there : (n : ℕ) → Scan cs n → (size == 0) ≡ true → HasNone is_unsigned cs
    none_there n s e k few =
        elim (cases_lt n k) [
          | inl less ↦ numeral_over (take k cs) (s.over k less few)
          | inr more ↦ numeral_none (take k cs)
              (none_smaller (size_of (take k cs)) size (s.under k more) (no_size size e))
        ]

    of_scan : ((n : ℕ) × Scan cs n) → IsOfLongest is_unsigned (unsigned_read negative) cs (unsigned_prefix negative cs)
    of_scan s = by_test (size == 0)
        (λ e. inr (none_there s.0 s.1 e, value true e))
        (λ e. inl (
          s.0,
          (
            record {
              there = numeral_there cs s.0 s.1 e;
              longest = λ k less few. numeral_over (take k cs)
                  (s.1.over k less few);
            },
            value false e ∙ sym (unsigned_value negative cs s.0 s.1),
          ),
        ))

-- behind a sign, and without one

behind_sign : (test : List ℕ → Bool) (read : List ℕ → Number) (negative : Bool) (c : ℕ) (cs : List ℕ) (x : Number)
    → test [] ≡ false → ((t : List ℕ) → test (c ∷ t) ≡ is_unsigned t)
    → ((t : List ℕ) → read (c ∷ t) ≡ unsigned_read negative t) → IsOfLongest is_unsigned (unsigned_read negative) cs x
    → IsOfLongest test read (c ∷ cs) x
behind_sign test read negative c cs x empty same value (inl (n, (l, e))) =
    inl (suc n, (record { there = same (take n cs) ∙ l.there; longest = longest }, e ∙ sym (value (take n cs))))
  where
    longest : (k : ℕ) → suc n < k → k ≤ length (c ∷ cs) → test (take k (c ∷ cs)) ≡ false
    longest zero less few = absurd (omega (arith, less))
    longest (suc k) less few = same (take k cs) ∙ l.longest k (one_less (suc n) n k refl less) (fewer k (length cs) few)
behind_sign test read negative c cs x empty same value (inr (none, e)) = inr (has_none, e)
  where
    has_none : (k : ℕ) → k ≤ length (c ∷ cs) → test (take k (c ∷ cs)) ≡ false
    has_none zero few = empty
    has_none (suc k) few = same (take k cs) ∙ none k (fewer k (length cs) few)

no_sign : (test : List ℕ → Bool) (read : List ℕ → Number) (c : ℕ) (cs : List ℕ) (x : Number) → test [] ≡ false
    → ((t : List ℕ) → test (c ∷ t) ≡ is_unsigned (c ∷ t)) → ((t : List ℕ) → read (c ∷ t) ≡ unsigned_read false (c ∷ t))
    → IsOfLongest is_unsigned (unsigned_read false) (c ∷ cs) x → IsOfLongest test read (c ∷ cs) x
no_sign test read c cs x empty same value (inl (zero, (l, e))) = absurd (false≢true l.there)
no_sign test read c cs x empty same value (inl (suc n, (l, e))) =
    inl (suc n, (record { there = same (take n cs) ∙ l.there; longest = longest }, e ∙ sym (value (take n cs))))
  where
    longest : (k : ℕ) → suc n < k → k ≤ length (c ∷ cs) → test (take k (c ∷ cs)) ≡ false
    longest zero less few = empty
    longest (suc k) less few = same (take k cs) ∙ l.longest (suc k) less few
no_sign test read c cs x empty same value (inr (none, e)) = inr (has_none, e)
  where
    has_none : (k : ℕ) → k ≤ length (c ∷ cs) → test (take k (c ∷ cs)) ≡ false
    has_none zero few = empty
    has_none (suc k) few = same (take k cs) ∙ none (suc k) few

-- what a first byte decides
abbrev chosen_by : {A : Type 0} → Bool → Bool → A → A → A → A
chosen_by minus plus x y z = if minus then x else (if plus then y else z)

signed_longest : (cs : List ℕ) → IsOfLongest is_signed signed_read cs (signed_prefix cs)
signed_longest [] = inr (no_bytes, refl)
  where
    no_bytes : HasNone is_signed []
    no_bytes zero few = refl
    no_bytes (suc k) few = refl
signed_longest (c ∷ cs) = by_test (c == 45)
    (λ m. subst (IsOfLongest is_signed signed_read (c ∷ cs))
    (sym (ap (λ b. chosen_by b (c == 43) (unsigned_prefix true cs) (unsigned_prefix false cs)
    (unsigned_prefix false (c ∷ cs))) m))
    (behind_sign is_signed signed_read true c cs (unsigned_prefix true cs) refl
    (λ t. ap (λ b. chosen_by b (c == 43) (is_unsigned t) (is_unsigned t) (is_unsigned (c ∷ t))) m)
    (λ t. ap (λ b. chosen_by b (c == 43) (unsigned_read true t) (unsigned_read false t) (unsigned_read false (c ∷ t)))
    m)
    (unsigned_longest true cs)))
    (λ m. by_test (c == 43)
    (λ p. subst (IsOfLongest is_signed signed_read (c ∷ cs))
    (sym (ap (λ b. chosen_by b (c == 43) (unsigned_prefix true cs) (unsigned_prefix false cs)
    (unsigned_prefix false (c ∷ cs))) m ∙ ap
    (λ b. chosen_by false b (unsigned_prefix true cs) (unsigned_prefix false cs) (unsigned_prefix false (c ∷ cs)))
    p))
    (behind_sign is_signed signed_read false c cs (unsigned_prefix false cs) refl
    (λ t. ap (λ b. chosen_by b (c == 43) (is_unsigned t) (is_unsigned t) (is_unsigned (c ∷ t))) m
    ∙ ap (λ b. chosen_by false b (is_unsigned t) (is_unsigned t) (is_unsigned (c ∷ t))) p)
    (λ t. ap (λ b. chosen_by b (c == 43) (unsigned_read true t) (unsigned_read false t) (unsigned_read false (c ∷ t))) m
    ∙ ap (λ b. chosen_by false b (unsigned_read true t) (unsigned_read false t) (unsigned_read false (c ∷ t))) p)
    (unsigned_longest false cs)))
    (λ p. subst (IsOfLongest is_signed signed_read (c ∷ cs))
    (sym (ap (λ b. chosen_by b (c == 43) (unsigned_prefix true cs) (unsigned_prefix false cs)
    (unsigned_prefix false (c ∷ cs))) m ∙ ap
    (λ b. chosen_by false b (unsigned_prefix true cs) (unsigned_prefix false cs) (unsigned_prefix false (c ∷ cs)))
    p))
    (no_sign is_signed signed_read c cs (unsigned_prefix false (c ∷ cs)) refl
    (λ t. ap (λ b. chosen_by b (c == 43) (is_unsigned t) (is_unsigned t) (is_unsigned (c ∷ t))) m
    ∙ ap (λ b. chosen_by false b (is_unsigned t) (is_unsigned t) (is_unsigned (c ∷ t))) p)
    (λ t. ap (λ b. chosen_by b (c == 43) (unsigned_read true t) (unsigned_read false t) (unsigned_read false (c ∷ t))) m
    ∙ ap (λ b. chosen_by false b (unsigned_read true t) (unsigned_read false t) (unsigned_read false (c ∷ t))) p)
    (unsigned_longest false (c ∷ cs)))))

pub prefix_read-longest : (cs : List ℕ) → IsOfLongest is_signed signed_read (without_blanks cs) (prefix_read cs)
prefix_read-longest cs = signed_longest (without_blanks cs)
