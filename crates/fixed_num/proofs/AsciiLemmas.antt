-- A number's text is text.
use Rattle.std.proofs.Common.{ℕ, zero, suc, ◌+◌, ◌/◌, ◌%◌, ◌^◌, ◌<◌, Bool, true, false, List, [], ◌∷◌, ◌++◌, replicate}
use Rattle.std.proofs.Common.{◌==◌, arith}
use Rattle.std.specs.Prelude.{ℤ, pos, negsuc, unsigned_abs, if◌then◌else◌}
use Rattle.std.specs.Str.{IsAscii, IsUtf8}
use Rattle.std.proofs.lemmas.Str.{IsAscii-append, IsUtf8-from_ascii}
use Rattle.fixed_num.specs.Number.{Number, asterisk, finite}
use Rattle.fixed_num.specs.Text.{last_digits, without_zeros, whole_digits, decimals_text, sign_text, text_of}

ascii_none : IsAscii []
ascii_none i = omega arith

ascii_cons : (c : ℕ) (cs : List ℕ) → c < 128 → IsAscii cs → IsAscii (c ∷ cs)
ascii_cons c cs small h zero = small
ascii_cons c cs small h (suc i) = h i

last_digits-ascii : (k n : ℕ) → IsAscii (last_digits k n)
last_digits-ascii zero n = ascii_none
last_digits-ascii (suc k) n = ascii_cons (48 + n / 10 ^ k % 10) (last_digits k n) (omega arith) (last_digits-ascii k n)

either_ascii : (xs ys : List ℕ) (b : Bool) → IsAscii xs → IsAscii ys → IsAscii (if b then xs else ys)
either_ascii xs ys true h g = h
either_ascii xs ys false h g = g

without_zeros-ascii : (ds : List ℕ) → IsAscii ds → IsAscii (without_zeros ds)
without_zeros-ascii [] h = h
without_zeros-ascii (c ∷ []) h = h
without_zeros-ascii (c ∷ (e ∷ cs)) h =
    either_ascii (without_zeros (e ∷ cs)) (c ∷ (e ∷ cs)) (c == 48) (without_zeros-ascii (e ∷ cs) (λ i. h (suc i))) h

whole_digits-ascii : (n : ℕ) → IsAscii (whole_digits n)
unfolding whole_digits
whole_digits-ascii n = without_zeros-ascii (last_digits 19 n) (last_digits-ascii 19 n)

decimals-ascii : (d n : ℕ) → IsAscii (decimals_text d n)
decimals-ascii zero n = ascii_none
decimals-ascii (suc k) n = ascii_cons 46 (last_digits (suc k) n) (omega arith) (last_digits-ascii (suc k) n)

sign-ascii : (m : ℤ) → IsAscii (sign_text m)
sign-ascii (pos n) = ascii_none
sign-ascii (negsuc n) = ascii_cons 45 [] (omega arith) ascii_none

stars : (k : ℕ) → IsAscii (replicate k 42)
stars zero = ascii_none
stars (suc k) = ascii_cons 42 (replicate k 42) (omega arith) (stars k)

text_of-ascii : (x : Number) → IsAscii (text_of x)
text_of-ascii asterisk = stars 10
text_of-ascii (finite m d) =
    IsAscii-append (sign_text m ++ whole_digits (unsigned_abs m / 10 ^ d)) (decimals_text d (unsigned_abs m))
    (IsAscii-append (sign_text m) (whole_digits (unsigned_abs m / 10 ^ d)) (sign-ascii m)
    (whole_digits-ascii (unsigned_abs m / 10 ^ d))) (decimals-ascii d (unsigned_abs m))

pub text_of-utf8 : (x : Number) → IsUtf8 (text_of x)
text_of-utf8 x = IsUtf8-from_ascii (text_of x) (text_of-ascii x)
