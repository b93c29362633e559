-- Keys that differ at the front are told apart by the number that their first bytes are.
use Rattle.std.proofs.Common.{◌≡◌, ℕ, zero, suc, ◌+◌, ◌*◌, ◌^◌, ◌<◌, ◌≤◌, List, [], ◌∷◌, length, refl, sym, ap, ◌∙◌}
use Rattle.std.proofs.Common.{arith, ⊎_elim}
use Rattle.std.proofs.lemmas.Bool.{cases_lt}
use Rattle.std.proofs.lemmas.Cmp.{nat_cmp_total, tied_itself}
use Rattle.std.proofs.Math.Nat.{add-mul, one-mul, mul-le-mul_right}
use Rattle.std.specs.declared.cmp.Ordering.TheVariants.{Greater}
use Rattle.std.specs.Ordering.{nat_cmp, ordering_reverse}
use Rattle.std.specs.Cmp.Lexicographic.{slice_cmp}
use Rattle.key_lists.proofs.KeyOrder.{nat_cmp-less as cmp_less}
use Rattle.key_rows.specs.Flat.{AreBytes}
use Rattle.byteorder.specs.Endian.{big_number}
use Rattle.byteorder.specs.Numbers.{big_from-cons, big_from-lt}

cmp_greater : (a b : ℕ) → b < a → nat_cmp a b ≡ Greater
cmp_greater a b lt = nat_cmp_total.antisymm a b ∙ ap ordering_reverse (cmp_less b a lt)

number_step : (n a : ℕ) (xs : List ℕ) → big_number (suc n) (a ∷ xs) ≡ a * 256 ^ n + big_number n xs
number_step n a xs = ap (λ r. a * 256 ^ n + r) (big_from-cons 0 n a xs)

-- a higher first part makes the whole higher
higher : (p x y a b : ℕ) → x < y → a < p → x * p + a < y * p + b
higher p x y a b lt small =
    omega (arith, mul-le-mul_right p (let h : x + 1 ≤ y = omega arith in h), add-mul x 1 p, one-mul p)

-- of equal first parts the rest decides
same_part : (p a b : ℕ) → (a ≡ b → ⊥) → nat_cmp (p + a) (p + b) ≡ nat_cmp a b
same_part p a b apart =
    ⊎_elim (λ lt. cmp_less (p + a) (p + b) (omega arith) ∙ sym (cmp_less a b lt))
    (λ ge. let gt : b < a = omega (arith, apart, ge) in cmp_greater (p + a) (p + b) (omega arith)
    ∙ sym (cmp_greater a b gt)) (cases_lt a b)

pub fronts_decide : (n : ℕ) (xs ys : List ℕ) → n ≤ length xs → n ≤ length ys → AreBytes xs → AreBytes ys
    → (big_number n xs ≡ big_number n ys → ⊥) → slice_cmp nat_cmp xs ys ≡ nat_cmp (big_number n xs) (big_number n ys)
fronts_decide zero xs ys l m s t apart = absurd (apart refl)
fronts_decide (suc n) [] ys l m s t apart = absurd (omega arith)
fronts_decide (suc n) (x ∷ xs) [] l m s t apart = absurd (omega arith)
fronts_decide (suc n) (x ∷ xs) (y ∷ ys) l m s t apart =
    let p = 256 ^ n in
    let a = big_number n xs in
    let b = big_number n ys in
    let e : big_number (suc n) (x ∷ xs) ≡ x * p + a = number_step n x xs in
    let f : big_number (suc n) (y ∷ ys) ≡ y * p + b = number_step n y ys in
    let small : a < p = big_from-lt 0 n xs (λ k. s (suc k)) in
    let low : b < p = big_from-lt 0 n ys (λ k. t (suc k)) in
    rw (e, f)
    (⊎_elim (λ lt. rw (cmp_less x y lt) (sym (cmp_less (x * p + a) (y * p + b) (higher p x y a b lt small))))
    (λ ge.
    ⊎_elim (λ gt. rw (cmp_greater x y gt) (sym (cmp_greater (x * p + a) (y * p + b) (higher p y x b a gt low))))
    (λ le.
    let same : x ≡ y = omega (arith, ge, le) in
    let others : a ≡ b → ⊥ = λ q. apart (e ∙ ap (λ i. i * p + a) same ∙ ap (λ r. y * p + r) q ∙ sym f) in
    let rest : slice_cmp nat_cmp xs ys ≡ nat_cmp a b =
    fronts_decide n xs ys (omega arith) (omega arith) (λ k. s (suc k)) (λ k. t (suc k)) others in
    let tied = ap (λ i. nat_cmp i y) same ∙ tied_itself nat_cmp_total y in
    rw tied (rest ∙ sym (same_part (y * p) a b others) ∙ ap (λ i. nat_cmp (i * p + a) (y * p + b)) (sym same)))
    (cases_lt y x)) (cases_lt x y))
