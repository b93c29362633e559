-- A field that is read is the field that was written, and what was written is read again.
use Rattle.std.proofs.Common.{◌≡◌, ℕ, zero, suc, ◌+◌, ◌^◌, ◌<◌, ◌≤◌, Bool, true, false, cond, ltb, List, [], ◌∷◌, ◌++◌}
use Rattle.std.proofs.Common.{length, get_or, take, drop, Option, Some, None, refl, sym, ap, subst, ◌∙◌, append_assoc}
use Rattle.std.proofs.Common.{arith, inl, inr}
use Rattle.std.specs.Prelude.{IfSome}
use Rattle.std.specs.Int.{Width, w32, byte_len, from_be_bytes, to_be_bytes}
use Rattle.std.proofs.lemmas.Bool.{cases_lt, ltb-false, le-ltb}
use Rattle.std.proofs.lemmas.List.{take_at, drop_at, take-append-drop, length-append, length-take, get_or-drop}
use Rattle.std.proofs.lemmas.List.{get_or-take, get_or_past}
use Rattle.std.proofs.lemmas.Nat.{be_bytes_4, from_be_bytes-to_be_bytes_4}
use Rattle.save_papers.specs.Papers.{string, flagged_sum}
use Rattle.save_papers.specs.Reading.{◌>>=◌, number_in_front, string_at, sum_at, flagged_sum_at}

abbrev pub IsBytes : List ℕ → Type 0
IsBytes bytes = (i : ℕ) → get_or bytes i 0 < 256

pub IsBytes-drop : (n : ℕ) (bytes : List ℕ) → IsBytes bytes → IsBytes (drop n bytes)
IsBytes-drop n bytes h i = rw get_or-drop (h (n + i))

pub IsBytes-take : (n : ℕ) (bytes : List ℕ) → IsBytes bytes → IsBytes (take n bytes)
IsBytes-take n bytes h i =
    elim (cases_lt i n) [
      | inl lt ↦ rw (get_or-take n bytes i 0 lt) (h i)
      | inr le ↦ rw (get_or_past (take n bytes) i 0 (omega (arith, length-take n bytes))) (omega arith)
    ]

-- the value of a step that did not fail
pub bind_some : {A B : Type 0} (r : Option A) (f : A → Option B) (y : B) → (r >>= f) ≡ Some y
    → (x : A) × (r ≡ Some x) × (f x ≡ Some y)
bind_some (Some x) f y e = (x, refl, e)
bind_some None f y e = absurd cc

-- a test that did not fail
pub guard_some : {A : Type 0} (b : Bool) (x y : A) → cond b None (Some x) ≡ Some y → (b ≡ false) × (x ≡ y)
guard_some true x y e = absurd cc
guard_some false x y e = (refl, cc)

abbrev done : {A : Type 0} → A → Option A
done x = Some x

pub some_is : {A : Type 0} (x y : A) → done x ≡ done y → x ≡ y
some_is x y e = cc

-- what a reader took from the front
pub record Takes (bytes text rest : List ℕ) : Type 0 where
  pub parts : bytes ≡ text ++ rest
  pub rest_fits : IsBytes rest

pub Takes-then : (a x b y c : List ℕ) → Takes a x b → Takes b y c → Takes a (x ++ y) c
Takes-then a x b y c p q =
    record { parts = p.parts ∙ ap (λ (t : List ℕ). x ++ t) q.parts ∙ sym (append_assoc x y c); rest_fits = q.rest_fits }

-- ---- numbers

pub record IsWide (w : Width) (limit : ℕ) : Type 0 where
  pub len : (n : ℕ) → length (to_be_bytes w n) ≡ byte_len w
  pub back : (bytes : List ℕ) → length bytes ≡ byte_len w → IsBytes bytes
      → to_be_bytes w (from_be_bytes w bytes) ≡ bytes
  pub again : (n : ℕ) → n < limit → from_be_bytes w (to_be_bytes w n) ≡ n
  pub below : (bytes : List ℕ) → IsBytes bytes → from_be_bytes w bytes < limit

wide32 : IsWide w32 (2 ^ 32)
wide32 = record {
  len = λ n. refl;
  back = λ bytes len fits. be_bytes_4 bytes _ len fits refl;
  again = λ n lt. from_be_bytes-to_be_bytes_4 n lt;
  below = λ bytes fits. omega (arith, fits 0, fits 1, fits 2, fits 3);
}

wide_takes : (w : Width) (limit : ℕ) (wide : IsWide w limit) (bytes : List ℕ) (n : ℕ) (rest : List ℕ) → IsBytes bytes
    → number_in_front w bytes ≡ Some (n, rest) → Takes bytes (to_be_bytes w n) rest × (n < limit)
wide_takes w limit wide bytes n rest fits e =
    let g = guard_some (ltb (length bytes) (byte_len w))
    (from_be_bytes w (take (byte_len w) bytes), drop (byte_len w) bytes) (n, rest) e in
    let long : byte_len w ≤ length bytes = ltb-false _ _ g.0 in
    let n-is : from_be_bytes w (take (byte_len w) bytes) ≡ n = ap (λ (p : ℕ × List ℕ). p.0) g.1 in
    let rest-is : drop (byte_len w) bytes ≡ rest = ap (λ (p : ℕ × List ℕ). p.1) g.1 in
    let front : to_be_bytes w n ≡ take (byte_len w) bytes = rw (← n-is)
    (wide.back (take (byte_len w) bytes) (omega (arith, length-take (byte_len w) bytes))
    (IsBytes-take (byte_len w) bytes fits)) in (
      record {
        parts = rw (front, ← rest-is) (sym (take-append-drop (byte_len w) bytes));
        rest_fits = rw (← rest-is)
            (IsBytes-drop (byte_len w) bytes fits);
      },
      rw (← n-is)
          (wide.below (take (byte_len w) bytes) (IsBytes-take (byte_len w) bytes fits)),
    )

wide_again : (w : Width) (limit : ℕ) (wide : IsWide w limit) (n : ℕ) (rest : List ℕ) → n < limit
    → number_in_front w (to_be_bytes w n ++ rest) ≡ Some (n, rest)
wide_again w limit wide n rest lt =
    let len = wide.len n in
    let long : ltb (length (to_be_bytes w n ++ rest)) (byte_len w) ≡ false =
    le-ltb _ _ (omega (arith, length-append (to_be_bytes w n) rest)) in
    rw (
      long,
      take_at (to_be_bytes w n) rest (byte_len w) len,
      drop_at (to_be_bytes w n) rest (byte_len w) len,
      wide.again n lt,
    ) refl

pub number_takes : (bytes : List ℕ) (n : ℕ) (rest : List ℕ) → IsBytes bytes → number_in_front w32 bytes ≡ Some (n, rest)
    → Takes bytes (to_be_bytes w32 n) rest × (n < 2 ^ 32)
number_takes bytes n rest = wide_takes w32 (2 ^ 32) wide32 bytes n rest

pub number_again : (n : ℕ) (rest : List ℕ) → n < 2 ^ 32 → number_in_front w32 (to_be_bytes w32 n ++ rest)
    ≡ Some (n, rest)
number_again n rest = wide_again w32 (2 ^ 32) wide32 n rest

-- ---- strings

pub string_takes : (bytes text rest : List ℕ) → IsBytes bytes → string_at bytes ≡ Some (text, rest)
    → Takes bytes (string text) rest × (length text < 2 ^ 32)
unfolding string_at
string_takes bytes text rest fits e =
    let b = bind_some (number_in_front w32 bytes)
    (λ n. cond (ltb (length n.1) n.0) None (Some (take n.0 n.1, drop n.0 n.1))) (text, rest) e in
    let n = b.0 in
    let t = number_takes bytes n.0 n.1 fits b.1 in
    let g = guard_some (ltb (length n.1) n.0) (take n.0 n.1, drop n.0 n.1) (text, rest) b.2 in
    let long : n.0 ≤ length n.1 = ltb-false _ _ g.0 in
    let len : length (take n.0 n.1) ≡ n.0 = omega (arith, length-take n.0 n.1) in
    let second : Takes n.1 (take n.0 n.1) (drop n.0 n.1) =
    record { parts = sym (take-append-drop n.0 n.1); rest_fits = IsBytes-drop n.0 n.1 t.0.rest_fits } in
    let both = Takes-then bytes (to_be_bytes w32 n.0) n.1 (take n.0 n.1) (drop n.0 n.1) t.0 second in
    let whole : Takes bytes (string (take n.0 n.1)) (drop n.0 n.1) =
    subst (λ (k : ℕ). Takes bytes (to_be_bytes w32 k ++ take n.0 n.1) (drop n.0 n.1)) (sym len) both in
    subst (λ (p : List ℕ × List ℕ). Takes bytes (string p.0) p.1 × (length p.0 < 2 ^ 32)) g.1
    (whole, omega (arith, t.1))

pub string_again : (text rest : List ℕ) → length text < 2 ^ 32 → string_at (string text ++ rest) ≡ Some (text, rest)
unfolding string_at
string_again text rest lt =
    let long : ltb (length (text ++ rest)) (length text) ≡ false =
    le-ltb _ _ (omega (arith, length-append text rest)) in
    rw (
      number_again (length text) (text ++ rest) lt,
      long,
      take_at text rest (length text) refl,
      drop_at text rest
          (length text) refl,
    ) refl

-- ---- sums

pub sum_takes : (bytes sum rest : List ℕ) → IsBytes bytes → sum_at bytes ≡ Some (sum, rest)
    → Takes bytes sum rest × (length sum ≡ 32)
sum_takes bytes sum rest fits e =
    let g = guard_some (ltb (length bytes) 32) (take 32 bytes, drop 32 bytes) (sum, rest) e in
    let long : 32 ≤ length bytes = ltb-false _ _ g.0 in
    let len : length (take 32 bytes) ≡ 32 = omega (arith, length-take 32 bytes) in
    subst (λ (p : List ℕ × List ℕ). Takes bytes p.0 p.1 × (length p.0 ≡ 32)) g.1
    (record { parts = sym (take-append-drop 32 bytes); rest_fits = IsBytes-drop 32 bytes fits }, len)

pub sum_again : (sum rest : List ℕ) → length sum ≡ 32 → sum_at (sum ++ rest) ≡ Some (sum, rest)
sum_again sum rest len =
    let long : ltb (length (sum ++ rest)) 32 ≡ false = le-ltb _ _ (omega (arith, length-append sum rest)) in
    rw (long, take_at sum rest 32 len, drop_at sum rest 32 len) refl

-- ---- a sum behind a flag

IsBytes-rest : (b : ℕ) (bytes : List ℕ) → IsBytes (b ∷ bytes) → IsBytes bytes
IsBytes-rest b bytes h i = h (suc i)

pub flagged_takes : (bytes : List ℕ) (o : Option (List ℕ)) (rest : List ℕ) → IsBytes bytes
    → flagged_sum_at bytes ≡ Some (o, rest) → Takes bytes (flagged_sum o) rest × IfSome o (λ sum. length sum ≡ 32)
unfolding flagged_sum_at
flagged_takes [] o rest fits e = absurd cc
flagged_takes (zero ∷ bytes) o rest fits e =
    subst (λ (x : Option (List ℕ) × List ℕ). Takes (0 ∷ bytes) (flagged_sum x.0) x.1
    × IfSome x.0 (λ sum. length sum ≡ 32)) (some_is (None, bytes) (o, rest) e)
    (record { parts = refl; rest_fits = IsBytes-rest 0 bytes fits }, tt)
flagged_takes (suc zero ∷ bytes) o rest fits e =
    let b = bind_some (sum_at bytes) (λ n. Some (Some n.0, n.1)) (o, rest) e in
    let t = sum_takes bytes b.0.0 b.0.1 (IsBytes-rest 1 bytes fits) b.1 in
    subst (λ (x : Option (List ℕ) × List ℕ). Takes (1 ∷ bytes) (flagged_sum x.0) x.1
    × IfSome x.0 (λ sum. length sum ≡ 32)) (some_is (Some b.0.0, b.0.1) (o, rest) b.2)
    (record { parts = ap (λ (w : List ℕ). 1 ∷ w) t.0.parts; rest_fits = t.0.rest_fits }, t.1)
flagged_takes (suc (suc b) ∷ bytes) o rest fits e = absurd cc

pub flagged_again : (o : Option (List ℕ)) (rest : List ℕ) → IfSome o (λ sum. length sum ≡ 32)
    → flagged_sum_at (flagged_sum o ++ rest) ≡ Some (o, rest)
unfolding flagged_sum_at
flagged_again None rest h = refl
flagged_again (Some sum) rest h = rw (sum_again sum rest h) refl
