-- Digits written behind a number, up to a limit, and the rounding of decimals that are too many.
use Rattle.std.proofs.Common.{◌≡◌, ℕ, suc, ◌+◌, ◌-◌, ◌*◌, ◌/◌, ◌^◌, ◌<◌, ◌≤◌, Bool, true, List, [], ◌∷◌, ◌++◌, length}
use Rattle.std.proofs.Common.{take, drop, get_or, min, refl, sym, ap, ◌∙◌, subst, ⊎_elim, length-append, length-take-le}
use Rattle.std.proofs.Common.{append_assoc, arith}
use Rattle.std.specs.Prelude.{ℤ, pos, nat_le, if◌then◌else◌}
use Rattle.std.proofs.Math.Nat.{min-eq_right, pow-suc, mul-le-mul_right}
use Rattle.std.proofs.Math.Seq.{drop-cons}
use Rattle.std.proofs.lemmas.List.{take-append-drop}
use Rattle.std.proofs.lemmas.Nat.{div-mul-add}
use Rattle.std.proofs.lemmas.Bool.{cases_lt}
use Rattle.std.proofs.lemmas.Bool.Decides.{nat_tests}
use Rattle.fixed_num.specs.Number.{number, signed, magnitude_limit, most_decimals}
use Rattle.fixed_num.specs.Rounding.{nearest, rounded}
use Rattle.fixed_num.specs.Arithmetic.{fitted}
use Rattle.fixed_num.specs.Reading.{are_digits, with_digits}
use Rattle.fixed_num.proofs.RoundLemmas.{fitted_many}
use Rattle.fixed_num.proofs.QuotientLemmas.{number_above}

-- digits behind a number never make it less
pub with_digits-le : (n : ℕ) (ds : List ℕ) → n ≤ with_digits n ds
with_digits-le n [] = omega arith
with_digits-le n (c ∷ cs) = omega (arith, with_digits-le (n * 10 + (c - 48)) cs)

-- a number above the limit may be taken as the limit
pub with_digits-capped : (n : ℕ) (ds : List ℕ) → min magnitude_limit (with_digits (min magnitude_limit n) ds)
    ≡ min magnitude_limit (with_digits n ds)
with_digits-capped n ds = ⊎_elim
    (λ below. ap (λ x. min magnitude_limit (with_digits x ds))
    (min-eq_right (let h : n ≤ magnitude_limit = omega arith in h)))
    (λ above. omega (arith, with_digits-le (min magnitude_limit n) ds, with_digits-le n ds))
    (cases_lt n magnitude_limit)

pub with_digits-append : (n : ℕ) (xs ys : List ℕ) → with_digits n (xs ++ ys) ≡ with_digits (with_digits n xs) ys
with_digits-append n [] ys = refl
with_digits-append n (c ∷ cs) ys = with_digits-append (n * 10 + (c - 48)) cs ys

-- one more digit, up to the limit
pub capped_more : (n x next : ℕ) (ds : List ℕ) (i : ℕ) → i < length ds → x ≡ get_or ds i 0
    → next ≡ min (n * 10 + (x - 48)) magnitude_limit → min magnitude_limit (with_digits next (drop (i + 1) ds))
    ≡ min magnitude_limit (with_digits n (drop i ds))
capped_more n x next ds i within is_x is_next =
    let first : drop i ds ≡ x ∷ drop (i + 1) ds = drop-cons ds i 0 within ∙ ap (λ y. y ∷ drop (suc i) ds) (sym is_x)
    ∙ ap (λ j. x ∷ drop j ds) (let h : suc i ≡ i + 1 = omega arith in h) in
    let step : with_digits n (drop i ds) ≡ with_digits (n * 10 + (x - 48)) (drop (i + 1) ds) =
    ap (with_digits n) first in
    let turned : next ≡ min magnitude_limit (n * 10 + (x - 48)) = omega arith in
    ap (λ m. min magnitude_limit (with_digits m (drop (i + 1) ds))) turned
    ∙ with_digits-capped (n * 10 + (x - 48)) (drop (i + 1) ds) ∙ ap (min magnitude_limit) (sym step)

split_step : (n e unit w a b next : ℕ) → next ≡ unit * 10 → a ≡ (n * 10 + e) * unit + w → b ≡ (0 * 10 + e) * unit + w
    → a ≡ n * next + b
split_step n e unit w a b next is_next is_a is_b =
    let whole : n * next ≡ n * (unit * 10) = ap (λ x. n * x) is_next in
    omega arith

-- what stands behind a number counts below one of its units
pub with_digits-split : (n : ℕ) (ds : List ℕ) → with_digits n ds ≡ n * 10 ^ length ds + with_digits 0 ds
with_digits-split n [] = omega arith
with_digits-split n (c ∷ cs) =
    split_step n (c - 48) (10 ^ length cs) (with_digits 0 cs) (with_digits n (c ∷ cs)) (with_digits 0 (c ∷ cs))
    (10 ^ length (c ∷ cs)) (pow-suc 10 (length cs)) (with_digits-split (n * 10 + (c - 48)) cs)
    (with_digits-split (0 * 10 + (c - 48)) cs)

below_step : (e unit w b next : ℕ) → next ≡ unit * 10 → b ≡ (0 * 10 + e) * unit + w → e ≤ 9 → w < unit → b < next
below_step e unit w b next is_next is_b digit below =
    let top : e * unit ≤ 9 * unit = mul-le-mul_right unit digit in
    omega arith

pub with_digits-below : (ds : List ℕ) → are_digits ds ≡ true → with_digits 0 ds < 10 ^ length ds
with_digits-below [] h = omega arith
with_digits-below (c ∷ cs) h =
    let first : c ≤ 57 = grind (arith, nat_tests) in
    let others : are_digits cs ≡ true = grind (arith, nat_tests) in
    below_step (c - 48) (10 ^ length cs) (with_digits 0 cs) (with_digits 0 (c ∷ cs)) (10 ^ length (c ∷ cs))
    (pow-suc 10 (length cs)) (with_digits-split (0 * 10 + (c - 48)) cs) (omega arith) (with_digits-below cs others)

-- half a unit or more is rounded up
half_up : (v e w unit : ℕ) → 5 ≤ e → e ≤ 9 → w < unit → nearest ((v * 10 + e) * unit + w) (unit * 10) ≡ v + 1
half_up v e w unit half digit below =
    let least : 5 * unit ≤ e * unit = mul-le-mul_right unit half in
    let most : e * unit ≤ 9 * unit = mul-le-mul_right unit digit in
    let sum : 2 * ((v * 10 + e) * unit + w) + unit * 10 ≡ (v + 1) * (2 * (unit * 10))
    + (2 * (e * unit) + 2 * w - 10 * unit) = omega arith in
    ap (λ x. x / (2 * (unit * 10))) sum ∙ div-mul-add (v + 1) (2 * (unit * 10)) (2 * (e * unit) + 2 * w - 10 * unit)
    (omega arith)

-- less than half is left out
half_down : (v e w unit : ℕ) → e ≤ 4 → w < unit → nearest ((v * 10 + e) * unit + w) (unit * 10) ≡ v
half_down v e w unit digit below =
    let most : e * unit ≤ 4 * unit = mul-le-mul_right unit digit in
    let sum : 2 * ((v * 10 + e) * unit + w) + unit * 10 ≡ v * (2 * (unit * 10)) + (2 * (e * unit) + 2 * w + 10 * unit) =
    omega arith in
    ap (λ x. x / (2 * (unit * 10))) sum ∙ div-mul-add v (2 * (unit * 10)) (2 * (e * unit) + 2 * w + 10 * unit)
    (omega arith)

-- digits that are rounded away: the first of them tells
behind : (v c : ℕ) (cs : List ℕ) → nearest (with_digits v (c ∷ cs)) (10 ^ length (c ∷ cs))
    ≡ nearest ((v * 10 + (c - 48)) * 10 ^ length cs + with_digits 0 cs) (10 ^ length cs * 10)
behind v c cs = ap (λ x. nearest x (10 ^ length (c ∷ cs))) (with_digits-split (v * 10 + (c - 48)) cs)
    ∙ ap (nearest ((v * 10 + (c - 48)) * 10 ^ length cs + with_digits 0 cs)) (pow-suc 10 (length cs))

pub rounded_up : (v c : ℕ) (cs : List ℕ) → are_digits (c ∷ cs) ≡ true → 53 ≤ c
    → nearest (with_digits v (c ∷ cs)) (10 ^ length (c ∷ cs)) ≡ v + 1
rounded_up v c cs h half =
    let digit : c ≤ 57 = grind (arith, nat_tests) in
    let others : are_digits cs ≡ true = grind (arith, nat_tests) in
    behind v c cs ∙ half_up v (c - 48) (with_digits 0 cs) (10 ^ length cs) (omega arith) (omega arith)
    (with_digits-below cs others)

pub rounded_down : (v c : ℕ) (cs : List ℕ) → are_digits (c ∷ cs) ≡ true → c < 53
    → nearest (with_digits v (c ∷ cs)) (10 ^ length (c ∷ cs)) ≡ v
rounded_down v c cs h less =
    let others : are_digits cs ≡ true = grind (arith, nat_tests) in
    behind v c cs ∙ half_down v (c - 48) (with_digits 0 cs) (10 ^ length cs) (omega arith) (with_digits-below cs others)

-- a magnitude at the limit
pub number_capped : (s : Bool) (m d : ℕ) → number (signed s (min magnitude_limit m)) d ≡ number (signed s m) d
number_capped s m d = ⊎_elim
    (λ below. ap (λ x. number (signed s x) d) (min-eq_right (let h : m ≤ magnitude_limit = omega arith in h)))
    (λ above. number_above s (min magnitude_limit m) d (omega arith) ∙ sym (number_above s m d above))
    (cases_lt m magnitude_limit)

number_capped_more : (s : Bool) (m d : ℕ) → number (signed s (min magnitude_limit m + 1)) d
    ≡ number (signed s (m + 1)) d
number_capped_more s m d = ⊎_elim
    (λ below. ap (λ x. number (signed s (x + 1)) d) (min-eq_right (let h : m ≤ magnitude_limit = omega arith in h)))
    (λ above. number_above s (min magnitude_limit m + 1) d (omega arith) ∙ sym (number_above s (m + 1) d (omega arith)))
    (cases_lt m magnitude_limit)

-- digits written in two parts, up to the limit
in_parts : (xs ys : List ℕ) (first both : ℕ) → first ≡ min magnitude_limit (with_digits 0 xs)
    → both ≡ min magnitude_limit (with_digits first ys) → both ≡ min magnitude_limit (with_digits 0 (xs ++ ys))
in_parts xs ys first both is_first is_both =
    is_both ∙ ap (λ n. min magnitude_limit (with_digits n ys)) is_first ∙ with_digits-capped (with_digits 0 xs) ys
    ∙ ap (min magnitude_limit) (sym (with_digits-append 0 xs ys))

pub fitted_few : (m : ℤ) (d : ℕ) → d ≤ most_decimals → number m d ≡ fitted m d
fitted_few m d few =
    let within : nat_le d most_decimals ≡ true = grind (arith, nat_tests) in
    let P : Bool → Type 0 = λ b. number m d
    ≡ (if b then number m d else number (rounded m (pos (10 ^ (d - most_decimals)))) most_decimals) in
    subst P (sym within) refl

-- no more decimals than a number has
pub read_few : (s : Bool) (whole fraction : List ℕ) (first both : ℕ) → length fraction ≤ most_decimals
    → first ≡ min magnitude_limit (with_digits 0 whole) → both ≡ min magnitude_limit (with_digits first fraction)
    → number (signed s both) (length fraction) ≡ fitted (signed s (with_digits 0 (whole ++ fraction))) (length fraction)
read_few s whole fraction first both few is_first is_both =
    ap (λ x. number (signed s x) (length fraction)) (in_parts whole fraction first both is_first is_both)
    ∙ number_capped s (with_digits 0 (whole ++ fraction)) (length fraction)
    ∙ fitted_few (signed s (with_digits 0 (whole ++ fraction))) (length fraction) few

-- the decimals that are kept, the first that isn't, and the others
cut_at : (fraction : List ℕ) → most_decimals < length fraction → fraction
    ≡ take most_decimals fraction ++ (get_or fraction most_decimals 0 ∷ drop (suc most_decimals) fraction)
cut_at fraction many = sym (take-append-drop most_decimals fraction)
    ∙ ap (λ ds. take most_decimals fraction ++ ds) (drop-cons fraction most_decimals 0 many)

are_digits-append : (xs ys : List ℕ) → are_digits (xs ++ ys) ≡ true → are_digits ys ≡ true
are_digits-append [] ys h = h
are_digits-append (c ∷ cs) ys h = are_digits-append cs ys (grind (arith, nat_tests))

-- what is kept of more decimals
read_many : (s : Bool) (whole kept : List ℕ) (c : ℕ) (cs : List ℕ) (value : ℕ) → length kept ≡ most_decimals
    → value ≡ nearest (with_digits (with_digits 0 (whole ++ kept)) (c ∷ cs)) (10 ^ length (c ∷ cs))
    → number (signed s value) most_decimals ≡ fitted (signed s (with_digits 0 (whole ++ (kept ++ (c ∷ cs)))))
    (length (kept ++ (c ∷ cs)))
read_many s whole kept c cs value size is_value =
    let long : length (kept ++ (c ∷ cs)) ≡ most_decimals + length (c ∷ cs) =
    length-append kept (c ∷ cs) ∙ ap (λ n. n + length (c ∷ cs)) size in
    let digits : with_digits 0 (whole ++ (kept ++ (c ∷ cs))) ≡ with_digits (with_digits 0 (whole ++ kept)) (c ∷ cs) =
    ap (with_digits 0) (sym (append_assoc whole kept (c ∷ cs))) ∙ with_digits-append 0 (whole ++ kept) (c ∷ cs) in
    let power : 10 ^ length (c ∷ cs) ≡ 10 ^ (length (kept ++ (c ∷ cs)) - most_decimals) =
    ap (λ k. 10 ^ k) (omega arith) in
    fitted_many s (with_digits 0 (whole ++ (kept ++ (c ∷ cs)))) (length (kept ++ (c ∷ cs))) (10 ^ length (c ∷ cs)) value
    (omega (arith, long)) power (is_value ∙ ap (λ x. nearest x (10 ^ length (c ∷ cs))) (sym digits))

pub read_up : (s : Bool) (whole fraction : List ℕ) (first both : ℕ) → are_digits fraction ≡ true
    → most_decimals < length fraction → 53 ≤ get_or fraction most_decimals 0
    → first ≡ min magnitude_limit (with_digits 0 whole) → both ≡ min magnitude_limit
    (with_digits first (take most_decimals fraction)) → number (signed s (both + 1)) most_decimals
    ≡ fitted (signed s (with_digits 0 (whole ++ fraction))) (length fraction)
read_up s whole fraction first both digits many half is_first is_both =
    let kept = take most_decimals fraction in
    let c = get_or fraction most_decimals 0 in
    let cs = drop (suc most_decimals) fraction in
    let parts = cut_at fraction many in
    let tail : are_digits (c ∷ cs) ≡ true = are_digits-append kept (c ∷ cs) (ap are_digits (sym parts) ∙ digits) in
    let v = with_digits 0 (whole ++ kept) in
    ap (λ x. number (signed s (x + 1)) most_decimals) (in_parts whole kept first both is_first is_both)
    ∙ number_capped_more s v most_decimals
    ∙ read_many s whole kept c cs (v + 1) (length-take-le most_decimals fraction (omega arith))
    (sym (rounded_up v c cs tail half))
    ∙ ap (λ ds. fitted (signed s (with_digits 0 (whole ++ ds))) (length ds)) (sym parts)

pub read_down : (s : Bool) (whole fraction : List ℕ) (first both : ℕ) → are_digits fraction ≡ true
    → most_decimals < length fraction → get_or fraction most_decimals 0 < 53
    → first ≡ min magnitude_limit (with_digits 0 whole) → both ≡ min magnitude_limit
    (with_digits first (take most_decimals fraction)) → number (signed s both) most_decimals
    ≡ fitted (signed s (with_digits 0 (whole ++ fraction))) (length fraction)
read_down s whole fraction first both digits many less is_first is_both =
    let kept = take most_decimals fraction in
    let c = get_or fraction most_decimals 0 in
    let cs = drop (suc most_decimals) fraction in
    let parts = cut_at fraction many in
    let tail : are_digits (c ∷ cs) ≡ true = are_digits-append kept (c ∷ cs) (ap are_digits (sym parts) ∙ digits) in
    let v = with_digits 0 (whole ++ kept) in
    ap (λ x. number (signed s x) most_decimals) (in_parts whole kept first both is_first is_both)
    ∙ number_capped s v most_decimals
    ∙ read_many s whole kept c cs v (length-take-le most_decimals fraction (omega arith))
    (sym (rounded_down v c cs tail less))
    ∙ ap (λ ds. fitted (signed s (with_digits 0 (whole ++ ds))) (length ds)) (sym parts)
