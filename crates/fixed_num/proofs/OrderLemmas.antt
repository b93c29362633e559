-- Numbers compare as whole numbers with any common number of decimals.
use Rattle.std.proofs.Common.{◌≡◌, ℕ, zero, suc, ◌+◌, ◌-◌, ◌*◌, ◌^◌, ◌<◌, ◌≤◌, cond, ⊎_elim, Bool, true, false, refl}
use Rattle.std.proofs.Common.{sym, ap, ◌∙◌, subst, arith}
use Rattle.std.specs.Prelude.{ℤ, pos, negsuc, neg_ℤ, ◌*ℤ◌, int_lt, nat_lt}
use Rattle.std.specs.declared.cmp.Ordering.TheVariants.{Less, Equal, Greater}
use Rattle.std.specs.Ordering.{int_cmp, nat_cmp, ordering_reverse}
use Rattle.std.specs.Cmp.{IsTotalOrder, int_cmp_total}
use Rattle.std.proofs.Math.Nat.{mul-lt-mul_of_pos_right, mul-le-mul_right, mul-pos, one-le-pow}
use Rattle.std.proofs.lemmas.Nat.{pow-add}
use Rattle.std.proofs.lemmas.Bool.{cases_lt, lt-ltb, le-ltb, eq-eqb, ne_eqb}
use Rattle.fixed_num.specs.Number.{Number, asterisk, finite, scaled, signed}
use Rattle.fixed_num.specs.Order.{compared}
use Rattle.fixed_num.proofs.SignLemmas.{neg-mul, scaled_signed}

-- a common factor keeps the order of naturals
nat_lt-scaled : (a b unit : ℕ) → 0 < unit → nat_lt (a * unit) (b * unit) ≡ nat_lt a b
nat_lt-scaled a b unit positive = ⊎_elim
    (λ less. lt-ltb (a * unit) (b * unit) (mul-lt-mul_of_pos_right less positive) ∙ sym (lt-ltb a b less))
    (λ more. le-ltb (a * unit) (b * unit) (mul-le-mul_right unit more) ∙ sym (le-ltb a b more))
    (cases_lt a b)

-- a product below zero, by what stands before its last unit
below_zero : (p unit : ℕ) → negsuc p *ℤ pos (suc unit) ≡ negsuc (p * suc unit + unit)
below_zero p unit = ap (λ n. neg_ℤ (pos n)) (let h : suc p * suc unit ≡ suc (p * suc unit + unit) = omega arith in h)

nat_lt-shifted : (a b unit : ℕ) → nat_lt (a * suc unit + unit) (b * suc unit + unit) ≡ nat_lt a b
nat_lt-shifted a b unit = ⊎_elim
    (λ less. lt-ltb (a * suc unit + unit) (b * suc unit + unit)
    (omega (arith, mul-lt-mul_of_pos_right less (let h : 0 < suc unit = omega arith in h))) ∙ sym (lt-ltb a b less))
    (λ more. le-ltb (a * suc unit + unit) (b * suc unit + unit) (omega (arith, mul-le-mul_right (suc unit) more))
    ∙ sym (le-ltb a b more))
    (cases_lt a b)

int_lt-scaled : (a b : ℤ) (unit : ℕ) → int_lt (a *ℤ pos (suc unit)) (b *ℤ pos (suc unit)) ≡ int_lt a b
int_lt-scaled (pos a) (pos b) unit = nat_lt-scaled a b (suc unit) (omega arith)
int_lt-scaled (pos a) (negsuc b) unit = ap (int_lt (pos (a * suc unit))) (below_zero b unit)
int_lt-scaled (negsuc a) (pos b) unit = ap (λ x. int_lt x (pos (b * suc unit))) (below_zero a unit)
int_lt-scaled (negsuc a) (negsuc b) unit =
    ap (λ x. int_lt x (negsuc b *ℤ pos (suc unit))) (below_zero a unit)
    ∙ ap (int_lt (negsuc (a * suc unit + unit))) (below_zero b unit) ∙ nat_lt-shifted b a unit

int_cmp-scaled : (a b : ℤ) (unit : ℕ) → 0 < unit → int_cmp (a *ℤ pos unit) (b *ℤ pos unit) ≡ int_cmp a b
int_cmp-scaled a b zero positive = absurd (omega arith)
int_cmp-scaled a b (suc unit) positive =
    ap (λ t. cond t Less (cond (int_lt (b *ℤ pos (suc unit)) (a *ℤ pos (suc unit))) Greater Equal))
    (int_lt-scaled a b unit) ∙ ap (λ t. cond (int_lt a b) Less (cond t Greater Equal)) (int_lt-scaled b a unit)

-- decimals added twice
scaled-scaled : (m : ℤ) (j k : ℕ) → scaled m j *ℤ pos (10 ^ k) ≡ scaled m (j + k)
scaled-scaled (pos n) j k = ap pos (omega (arith, pow-add 10 j k, ap (λ x. n * x) (pow-add 10 j k)))
scaled-scaled (negsuc n) j k = neg-mul (pos (suc n * 10 ^ j)) (pos (10 ^ k))
    ∙ ap (λ x. neg_ℤ (pos x)) (omega (arith, ap (λ x. suc n * x) (pow-add 10 j k)))

pub compared-at : (m n : ℤ) (d e k : ℕ) → d ≤ k → e ≤ k → compared (finite m d) (finite n e)
    ≡ int_cmp (scaled m (k - d)) (scaled n (k - e))
compared-at m n d e k few_d few_e =
    sym (int_cmp-scaled (scaled m e) (scaled n d) (10 ^ k) (one-le-pow k 10 (omega arith)))
    ∙ ap (λ x. int_cmp x (scaled n d *ℤ pos (10 ^ k)))
    (scaled-scaled m e k ∙ ap (scaled m) (let h : e + k ≡ k - d + (d + e) = omega arith in h)
    ∙ sym (scaled-scaled m (k - d) (d + e)))
    ∙ ap (λ x. int_cmp (scaled m (k - d) *ℤ pos (10 ^ (d + e))) x)
    (scaled-scaled n d k ∙ ap (scaled n) (let h : d + k ≡ k - e + (d + e) = omega arith in h)
    ∙ sym (scaled-scaled n (k - e) (d + e)))
    ∙ int_cmp-scaled (scaled m (k - d)) (scaled n (k - e)) (10 ^ (d + e)) (one-le-pow (d + e) 10 (omega arith))

compared-antisymm : (x y : Number) → compared x y ≡ ordering_reverse (compared y x)
compared-antisymm asterisk asterisk = refl
compared-antisymm asterisk (finite n e) = refl
compared-antisymm (finite m d) asterisk = refl
compared-antisymm (finite m d) (finite n e) = int_cmp_total.antisymm (scaled m e) (scaled n d)

compared-trans : (x y z : Number) → compared x y ≡ Less → compared y z ≡ Less → compared x z ≡ Less
compared-trans asterisk asterisk z h g = cc
compared-trans asterisk (finite n e) z h g = cc
compared-trans (finite m d) asterisk asterisk h g = cc
compared-trans (finite m d) asterisk (finite o f) h g = cc
compared-trans (finite m d) (finite n e) asterisk h g = refl
compared-trans (finite m d) (finite n e) (finite o f) h g =
    let k = d + e + f in
    let p = compared-at m n d e k (omega arith) (omega arith) in
    let q = compared-at n o e f k (omega arith) (omega arith) in
    let r = compared-at m o d f k (omega arith) (omega arith) in
    r ∙ int_cmp_total.trans (scaled m (k - d)) (scaled n (k - e)) (scaled o (k - f)) (sym p ∙ h) (sym q ∙ g)

compared-congr : (x y z : Number) → compared x y ≡ Equal → compared x z ≡ compared y z
compared-congr asterisk asterisk z h = refl
compared-congr asterisk (finite n e) z h = cc
compared-congr (finite m d) asterisk z h = cc
compared-congr (finite m d) (finite n e) asterisk h = refl
compared-congr (finite m d) (finite n e) (finite o f) h =
    let k = d + e + f in
    let p = compared-at m n d e k (omega arith) (omega arith) in
    let q = compared-at n o e f k (omega arith) (omega arith) in
    let r = compared-at m o d f k (omega arith) (omega arith) in
    r ∙ int_cmp_total.congr (scaled m (k - d)) (scaled n (k - e)) (scaled o (k - f)) (sym p ∙ h) ∙ sym q

pub compared-total : IsTotalOrder compared
compared-total = record { antisymm = compared-antisymm; trans = compared-trans; congr = compared-congr }

-- ---- numbers of as many decimals, by their magnitudes

-- the order of naturals, as whole numbers
pub whole_cmp : (a b : ℕ) → nat_cmp a b ≡ int_cmp (pos a) (pos b)
whole_cmp a b = ⊎_elim
    (λ less. rw (lt-ltb a b less) refl)
    (λ more. ⊎_elim
    (λ above. rw (le-ltb a b more, lt-ltb b a above, ne_eqb a b (λ e. absurd (omega (arith, e, above)))) refl)
    (λ upto. rw (le-ltb a b more, le-ltb b a upto, eq-eqb a b (omega (arith, more, upto))) refl)
    (cases_lt b a))
    (cases_lt a b)

one_more : (a b : ℕ) → nat_cmp (suc a) (suc b) ≡ int_cmp (negsuc b) (negsuc a)
one_more a b = ⊎_elim
    (λ less. rw (lt-ltb a b less, lt-ltb (suc a) (suc b) (omega (arith, less))) refl)
    (λ more. ⊎_elim
    (λ above. rw (
      le-ltb a b more,
      lt-ltb b a above,
      le-ltb (suc a) (suc b) (omega (arith, more)),
      ne_eqb (suc a)
          (suc b) (λ e. absurd (omega (arith, e, above))),
    ) refl)
    (λ upto. rw (
      le-ltb a b more,
      le-ltb b a upto,
      le-ltb (suc a) (suc b) (omega (arith, more)),
      eq-eqb (suc a) (suc b)
          (omega (arith, more, upto)),
    ) refl)
    (cases_lt b a))
    (cases_lt a b)

-- as many decimals change nothing
alike : (x y : ℤ) (d : ℕ) → int_cmp (scaled x d) (scaled y d) ≡ int_cmp x y
alike x y d = int_cmp-scaled x y (10 ^ d) (one-le-pow d 10 (omega arith))

pub alike_above : (m n d : ℕ) → nat_cmp m n ≡ compared (finite (pos m) d) (finite (pos n) d)
alike_above m n d = whole_cmp m n ∙ sym (alike (pos m) (pos n) d)

-- ---- the same by sign

pub below_cmp : (m n : ℕ) → 0 < m → 0 < n → nat_cmp n m ≡ int_cmp (signed true m) (signed true n)
below_cmp zero n p q = absurd (omega (arith, p))
below_cmp (suc m) zero p q = absurd (omega (arith, q))
below_cmp (suc m) (suc n) p q = one_more n m

pub falls_cmp : (m n : ℕ) → 0 < n → Greater ≡ int_cmp (signed false m) (signed true n)
falls_cmp m zero q = absurd (omega (arith, q))
falls_cmp m (suc n) q = refl

pub rises_cmp : (m n : ℕ) → 0 < m → Less ≡ int_cmp (signed true m) (signed false n)
rises_cmp zero n p = absurd (omega (arith, p))
rises_cmp (suc m) n p = refl

-- what was found of numbers that were given as many decimals
pub compared_longer : (s t : Bool) (m n d e x y k : ℕ) → d ≤ k → e ≤ k → x ≡ m * 10 ^ (k - d) → y ≡ n * 10 ^ (k - e)
    → int_cmp (signed s x) (signed t y) ≡ compared (finite (signed s m) d) (finite (signed t n) e)
compared_longer s t m n d e x y k few_d few_e is_x is_y =
    ap (λ v. int_cmp (signed s v) (signed t y)) is_x
    ∙ ap (λ v. int_cmp (signed s (m * 10 ^ (k - d))) (signed t v)) is_y
    ∙ ap (λ v. int_cmp v (signed t (n * 10 ^ (k - e)))) (sym (scaled_signed s m (10 ^ (k - d))))
    ∙ ap (λ v. int_cmp (scaled (signed s m) (k - d)) v) (sym (scaled_signed t n (10 ^ (k - e))))
    ∙ sym (compared-at (signed s m) (signed t n) d e k few_d few_e)

-- more decimals leave a number above zero
pub longer_some : (m k x : ℕ) → 0 < m → x ≡ m * 10 ^ k → 0 < x
longer_some m k x some is =
    let product : 0 < m * 10 ^ k = mul-pos some (one-le-pow k 10 (omega arith)) in
    subst (λ (v : ℕ). 0 < v) (sym is) product
