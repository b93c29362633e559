-- Long division in two groups of digits.
use Rattle.std.proofs.Common.{◌≡◌, ℕ, ◌+◌, ◌-◌, ◌*◌, ◌/◌, ◌%◌, ◌^◌, ◌<◌, ◌≤◌, sym, ap, ◌∙◌, subst, arith}
use Rattle.std.proofs.Math.Nat.{div-le_self, mul-le-mul, le-mul_of_pos_right, one-le-pow, div-add-mod'}
use Rattle.std.proofs.Math.Nat.{mul-le-mul_right}
use Rattle.std.proofs.lemmas.Nat.{pow-add, le-div}
use Rattle.fixed_num.specs.Number.{magnitude_limit}
use Rattle.fixed_num.specs.Rounding.{nearest}
use Rattle.fixed_num.proofs.PowerLemmas.{power_below}

pub nearest_at_least : (p q n : ℕ) → 0 < q → n * q ≤ p → n ≤ nearest p q
nearest_at_least p q n positive h = le-div n (2 * p + q) (2 * q) (omega arith) (omega arith)

-- the first group fits
pub first_fits : (a power k q : ℕ) → a < 2 ^ 64 → k ≤ 18 → power ≡ 10 ^ k → a * power / q < 2 ^ 127
first_fits a power k q small few is =
    let bound : a * power ≤ 2 ^ 64 * 10 ^ 18 = mul-le-mul (let h : a ≤ 2 ^ 64 = omega arith in h)
    (let h : power ≤ 10 ^ 18 = omega (arith, power_below k 18 few) in h) in
    omega (arith, div-le_self (a * power) q)

-- the power of all places is the product of both groups'
pub places_split : (a first places power more : ℕ) → first ≤ places → power ≡ 10 ^ first → more ≡ 10 ^ (places - first)
    → a * 10 ^ places ≡ a * power * more
places_split a first places power more le is_power is_more =
    let e : 10 ^ places ≡ power * more = ap (λ k. 10 ^ k) (let h : places ≡ first + (places - first) = omega arith in h)
    ∙ pow-add 10 first (places - first) ∙ ap (λ x. x * 10 ^ (places - first)) (sym is_power)
    ∙ ap (λ x. power * x) (sym is_more) in
    ap (λ x. a * x) e ∙ (let h : a * (power * more) ≡ a * power * more = omega arith in h)

-- a first group that is too long leaves a quotient that is too long
pub too_long : (a first places power more q : ℕ) → 0 < q → first ≤ places → power ≡ 10 ^ first
    → more ≡ 10 ^ (places - first) → magnitude_limit ≤ a * power / q → magnitude_limit ≤ nearest (a * 10 ^ places) q
too_long a first places power more q positive le is_power is_more long =
    let one : 1 ≤ more = subst (λ (x : ℕ). 1 ≤ x) (sym is_more) (one-le-pow (places - first) 10 (omega arith)) in
    let grows : a * power ≤ a * power * more = le-mul_of_pos_right (a * power) one in
    let whole : magnitude_limit * q ≤ a * power = omega (arith, mul-le-mul_right q long, div-add-mod' (a * power) q) in
    nearest_at_least (a * 10 ^ places) q magnitude_limit positive
    (omega (arith, places_split a first places power more le is_power is_more))

-- both groups fit
pub both_fit : (whole rest more k q : ℕ) → whole < magnitude_limit → rest < 2 ^ 64 → k ≤ 12 → more ≡ 10 ^ k
    → whole * more + rest * more / q < 2 ^ 127
both_fit whole rest more k q short small few is =
    let top : more ≤ 10 ^ 12 = omega (arith, power_below k 12 few) in
    let left : whole * more ≤ magnitude_limit * 10 ^ 12 =
    mul-le-mul (let h : whole ≤ magnitude_limit = omega arith in h) top in
    let right : rest * more ≤ 2 ^ 64 * 10 ^ 12 = mul-le-mul (let h : rest ≤ 2 ^ 64 = omega arith in h) top in
    omega (arith, div-le_self (rest * more) q)

-- both groups and the last rest make up the dividend
pub groups_joined : (x more q : ℕ) → (x / q * more + x % q * more / q) * q + x % q * more % q ≡ x * more
groups_joined x more q =
    let first : x / q * q + x % q ≡ x = div-add-mod' x q in
    let second : x % q * more / q * q + x % q * more % q ≡ x % q * more = div-add-mod' (x % q * more) q in
    let whole : (x / q * q + x % q) * more ≡ x * more = ap (λ y. y * more) first in
    omega arith
