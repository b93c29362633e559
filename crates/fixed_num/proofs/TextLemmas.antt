-- The digits of a whole number, and the length of a text.
use Rattle.std.proofs.Common.{◌≡◌, ℕ, zero, suc, ◌+◌, ◌-◌, ◌*◌, ◌/◌, ◌%◌, ◌^◌, ◌<◌, ◌≤◌, ◌⊎◌, Bool, true, false}
use Rattle.std.proofs.Common.{◌∷◌, ◌==◌, refl, sym, ap, ◌∙◌, subst, inl, inr, ⊎_elim, zero-add, suc-add, arith}
use Rattle.std.specs.Prelude.{if◌then◌else◌}
use Rattle.std.proofs.Math.Nat.{div-eq_of_lt, mod-eq_of_lt, div-lt_iff_lt-mul, div-mul-le_self, mul-le-mul_right}
use Rattle.std.proofs.Math.Nat.{one-le-pow}
use Rattle.std.proofs.lemmas.Nat.{le-div, pow-add}
use Rattle.std.proofs.lemmas.Bool.Decides.{nat_tests}
use Rattle.std.proofs.lemmas.Bool.{cases_lt}
use Rattle.fixed_num.specs.Text.{last_digits, without_zeros, whole_digits}
use Rattle.fixed_num.proofs.PowerLemmas.{power_below}

-- a digit above the number is a zero
zero_above : (j n : ℕ) → n < 10 ^ j → 48 + n / 10 ^ j % 10 ≡ 48
zero_above j n small = rw (div-eq_of_lt small) refl

-- a zero in front is left out
zero_off : (j n : ℕ) → n < 10 ^ suc j → without_zeros (last_digits (suc (suc j)) n)
    ≡ without_zeros (last_digits (suc j) n)
zero_off j n small =
    let digit : (48 + n / 10 ^ suc j % 10 == 48) ≡ true = rw (zero_above (suc j) n small) refl in
    let P : Bool → Type 0 = λ b. (if b then without_zeros (last_digits (suc j) n) else (48 + n / 10 ^ suc j % 10)
    ∷ last_digits (suc j) n) ≡ without_zeros (last_digits (suc j) n) in
    subst P (sym digit) refl

zeros_off : (g j n : ℕ) → n < 10 ^ suc j → without_zeros (last_digits (suc (g + j)) n)
    ≡ without_zeros (last_digits (suc j) n)
zeros_off zero j n small = ap (λ i. without_zeros (last_digits (suc i) n)) (zero-add j)
zeros_off (suc g) j n small =
    let wide : n < 10 ^ suc (g + j) = omega (arith, power_below (suc j) (suc (g + j)) (omega arith)) in
    ap (λ i. without_zeros (last_digits (suc i) n)) (suc-add g j) ∙ zero_off (g + j) n wide ∙ zeros_off g j n small

-- the first digit stays
first_stays : (j n : ℕ) → n < 10 ^ suc j → (j ≡ 0) ⊎ (10 ^ j ≤ n)
    → without_zeros (last_digits (suc j) n) ≡ last_digits (suc j) n
first_stays zero n small long = refl
first_stays (suc j) n small long =
    let above : 10 ^ suc j ≤ n = ⊎_elim (λ e. absurd (omega arith)) (λ h. h) long in
    let positive : 0 < 10 ^ suc j = one-le-pow (suc j) 10 (omega arith) in
    let some : 1 ≤ n / 10 ^ suc j = le-div 1 n (10 ^ suc j) positive (omega arith) in
    let few : n / 10 ^ suc j < 10 = (div-lt_iff_lt-mul positive).1 (omega (arith, pow-add 10 1 (suc j))) in
    let digit : (48 + n / 10 ^ suc j % 10 == 48) ≡ false = rw (mod-eq_of_lt few) (grind (arith, nat_tests)) in
    let P : Bool → Type 0 = λ b. (if b then without_zeros (last_digits (suc j) n) else (48 + n / 10 ^ suc j % 10)
    ∷ last_digits (suc j) n) ≡ (48 + n / 10 ^ suc j % 10) ∷ last_digits (suc j) n in
    subst P (sym digit) refl

-- as many digits as the number has
pub whole_digits_counted : (k n : ℕ) → 1 ≤ k → k ≤ 19 → n < 10 ^ k → (k ≡ 1) ⊎ (10 ^ (k - 1) ≤ n)
    → whole_digits n ≡ last_digits k n
unfolding whole_digits
whole_digits_counted zero n some few small long = absurd (omega arith)
whole_digits_counted (suc j) n some few small long =
    let gap : 19 ≡ suc (18 - j + j) = omega arith in
    let e : suc j - 1 ≡ j = omega arith in
    let longer : (j ≡ 0) ⊎ (10 ^ j ≤ n) =
    ⊎_elim (λ h. inl (omega arith)) (λ h. inr (subst (λ (i : ℕ). 10 ^ i ≤ n) e h)) long in
    ap (λ i. without_zeros (last_digits i n)) gap ∙ zeros_off (18 - j) j n small ∙ first_stays j n small longer

-- the digits before and after the point have room
pub digits_fit : (m d whole power count : ℕ) → m < 10 ^ 19 → power ≡ 10 ^ d → whole ≡ m / power
    → (count ≡ 1) ⊎ (10 ^ (count - 1) ≤ whole) → d ≤ 15 → count + d ≤ 19
digits_fit m d whole power count small is is_whole long few =
    ⊎_elim (λ e. omega arith) (λ h. ⊎_elim (λ l. omega arith) (λ many.
    let less : 10 ^ (count - 1) * 10 ^ d ≤ whole * power = rw is (mul-le-mul_right (10 ^ d) h) in
    let joined : 10 ^ (count - 1 + d) ≤ m =
    omega (arith, pow-add 10 (count - 1) d, div-mul-le_self m power, ap (λ x. x * power) is_whole) in
    absurd (omega (arith, power_below 19 (count - 1 + d) (omega arith)))
    ) (cases_lt (count + d) 20)) long
