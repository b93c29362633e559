-- Laws of the readers of numbers and texts, and of many things.
use Rattle.std.proofs.Common.{◌≡◌, ℕ, zero, suc, ◌^◌, ◌<◌, ◌≤◌, Bool, true, false, cond, ltb, List, [], ◌∷◌, ◌++◌}
use Rattle.std.proofs.Common.{length, get_or, take, drop, Some, None, Ok, Err, refl, sym, ap, subst, ◌∙◌, append_assoc}
use Rattle.std.proofs.Common.{arith}
use Rattle.std.specs.List.{flat_map, AllByRecursion}
use Rattle.std.specs.Int.{Width, w16, w32, w64, byte_len, from_le_bytes, to_le_bytes}
use Rattle.std.proofs.lemmas.Bool.{cases_lt, ltb-false, le-ltb}
use Rattle.std.proofs.lemmas.List.{take_at, drop_at, take-append-drop, length-append, length-take, get_or-take}
use Rattle.std.proofs.lemmas.List.{get_or_past, take-append-le, drop-append-le}
use Rattle.std.proofs.lemmas.Nat.{le_bytes_2, le_bytes_4, le_bytes_8, from_le_bytes-to_le_bytes_2}
use Rattle.std.proofs.lemmas.Nat.{from_le_bytes-to_le_bytes_4, from_le_bytes-to_le_bytes_8}
use Rattle.code_parts.specs.Reading.{Front, Reader, ◌>>=◌, give, byte_at, bytes_at, number_read_at, text_read_at}
use Rattle.code_parts.specs.Reading.{Judged, put_before, several, sure, counted_at}
use Rattle.code_parts.specs.Laws.{AreBytes, IsSteady, ReadsTexts}
use Rattle.code_parts.proofs.Combine.{ok_is, done, given, are_left, behind_some, byte_takes, steady_then, steady_give}
use Rattle.code_parts.proofs.Combine.{steady_byte}
use Rattle.std.proofs.Common.{inl, inr}

-- ---- numbers

pub record IsWide (w : Width) (limit : ℕ) : Type 0 where
  pub len : (n : ℕ) → length (to_le_bytes w n) ≡ byte_len w
  pub back : (bytes : List ℕ) → length bytes ≡ byte_len w → AreBytes bytes
      → to_le_bytes w (from_le_bytes w bytes) ≡ bytes
  pub again : (n : ℕ) → n < limit → from_le_bytes w (to_le_bytes w n) ≡ n
  pub below : (bytes : List ℕ) → AreBytes bytes → from_le_bytes w bytes < limit

pub wide16 : IsWide w16 (2 ^ 16)
wide16 = record {
  len = λ n. refl;
  back = λ bytes len fits. le_bytes_2 bytes _ len fits refl;
  again = λ n lt. from_le_bytes-to_le_bytes_2 n lt;
  below = λ bytes fits. omega (arith, fits 0, fits 1);
}

pub wide32 : IsWide w32 (2 ^ 32)
wide32 = record {
  len = λ n. refl;
  back = λ bytes len fits. le_bytes_4 bytes _ len fits refl;
  again = λ n lt. from_le_bytes-to_le_bytes_4 n lt;
  below = λ bytes fits. omega (arith, fits 0, fits 1, fits 2, fits 3);
}

pub wide64 : IsWide w64 (2 ^ 64)
wide64 = record {
  len = λ n. refl;
  back = λ bytes len fits. le_bytes_8 bytes _ len fits refl;
  again = λ n lt. from_le_bytes-to_le_bytes_8 n lt;
  below = λ bytes fits. omega (arith, fits 0, fits 1, fits 2, fits 3, fits 4, fits 5, fits 6, fits 7);
}

AreBytes-take : (n : ℕ) (bytes : List ℕ) → AreBytes bytes → AreBytes (take n bytes)
AreBytes-take n bytes h i =
    elim (cases_lt i n) [
      | inl lt ↦ rw (get_or-take n bytes i 0 lt) (h i)
      | inr le ↦ rw (get_or_past (take n bytes) i 0 (omega (arith, length-take n bytes))) (omega arith)
    ]

-- a test that bytes are missing, which failed
there_is : {A : Type 0} (b : Bool) (x y : A) → cond b None (Some x) ≡ Some y → (b ≡ false) × (x ≡ y)
there_is true x y e = absurd cc
there_is false x y e = (refl, cc)

-- what stands in so many bytes at the front
record IsFront (n : ℕ) (bytes text rest : List ℕ) : Type 0 where
  long : n ≤ length bytes
  text_is : take n bytes ≡ text
  rest_is : drop n bytes ≡ rest

parts_of : (n : ℕ) (bytes text rest : List ℕ) → IsFront n bytes text rest → bytes ≡ text ++ rest
parts_of n bytes text rest h =
    sym (take-append-drop n bytes) ∙ ap (λ (l : List ℕ). l ++ drop n bytes) h.text_is
    ∙ ap (λ (l : List ℕ). text ++ l) h.rest_is

front_of : {A : Type 0} (f : List ℕ → A) (n : ℕ) (bytes rest : List ℕ) (x : A)
    → cond {A = Front A} (ltb (length bytes) n) None (Some (f (take n bytes), drop n bytes)) ≡ Some (x, rest)
    → IsFront n bytes (take n bytes) rest × (f (take n bytes) ≡ x)
front_of {A} f n bytes rest x e =
    let g = there_is {A = A × List ℕ} (ltb (length bytes) n) (f (take n bytes), drop n bytes) (x, rest) e in (
      record { long = ltb-false _ _ g.0; text_is = refl; rest_is = ap (λ (p : A × List ℕ). p.1) g.1 },
      ap
          (λ (p : A × List ℕ). p.0) g.1,
    )

pub steady_number : (w : Width) → IsSteady (number_read_at w)
steady_number w = record {
  stays = λ bytes more rest x e. more_behind bytes more rest x
      (front_of (from_le_bytes w) (byte_len w) bytes rest x e);
}
  where
    more_behind : (bytes more rest : List ℕ) (x : ℕ)
        → IsFront (byte_len w) bytes (take (byte_len w) bytes) rest × (from_le_bytes w (take (byte_len w) bytes) ≡ x)
        → number_read_at w (bytes ++ more) ≡ Some (x, rest ++ more)
    more_behind bytes more rest x h =
        let long : byte_len w ≤ length bytes = h.0.long in
        let still : ltb (length (bytes ++ more)) (byte_len w) ≡ false =
        le-ltb _ _ (omega (arith, length-append bytes more)) in
        rw (
          still,
          take-append-le (byte_len w) bytes more long,
          drop-append-le (byte_len w) bytes more long,
          h.1,
          h.0.rest_is,
        ) refl

pub number_spells : (w : Width) (limit : ℕ) → IsWide w limit
    → ReadsTexts (sure (number_read_at w)) (to_le_bytes w) (λ n. n < limit) (λ n. n < limit)
number_spells w limit wide = record {
  again = λ n rest lt.
      let len = wide.len n in
      let long : ltb (length (to_le_bytes w n ++ rest)) (byte_len w) ≡ false =
      le-ltb _ _ (omega (arith, length-append (to_le_bytes w n) rest)) in
      rw (
        long,
        take_at (to_le_bytes w n) rest (byte_len w) len,
        drop_at (to_le_bytes w n) rest (byte_len w) len,
        wide.again n lt,
      ) refl;
  takes = λ bytes rest n fit e.
      let a = behind_some (number_read_at w bytes) (λ x. give (Ok x)) (Ok n, rest) e in
      let end = given (done a.0.0) (done n) a.0.1 rest a.2 in
      let is : a.0.0 ≡ n = ok_is a.0.0 n end.0 in
      let f = front_of (from_le_bytes w) (byte_len w) bytes a.0.1 a.0.0 a.1 in
      let text : to_le_bytes w n ≡ take (byte_len w) bytes =
      ap (to_le_bytes w) (sym (f.1 ∙ is))
      ∙ wide.back (take (byte_len w) bytes) (omega (arith, length-take (byte_len w) bytes, f.0.long))
      (AreBytes-take (byte_len w) bytes fit) in
      let small : n < limit = subst (λ (m : ℕ). m < limit) (f.1 ∙ is)
      (wide.below (take (byte_len w) bytes) (AreBytes-take (byte_len w) bytes fit)) in (
        parts_of (byte_len w) bytes (take (byte_len w) bytes) a.0.1 f.0 ∙ ap (λ (l : List ℕ). l ++ a.0.1) (sym text)
            ∙ ap (λ (l : List ℕ). to_le_bytes w n ++ l) end.1,
        small,
      );
  steady = steady_then (steady_number w) (λ x. steady_give (Ok x));
}

pub two_spells : ReadsTexts (sure (number_read_at w16)) (to_le_bytes w16) (λ n. n < 2 ^ 16) (λ n. n < 2 ^ 16)
two_spells = number_spells w16 (2 ^ 16) wide16

pub four_spells : ReadsTexts (sure (number_read_at w32)) (to_le_bytes w32) (λ n. n < 2 ^ 32) (λ n. n < 2 ^ 32)
four_spells = number_spells w32 (2 ^ 32) wide32

pub eight_spells : ReadsTexts (sure (number_read_at w64)) (to_le_bytes w64) (λ n. n < 2 ^ 64) (λ n. n < 2 ^ 64)
eight_spells = number_spells w64 (2 ^ 64) wide64

-- ---- texts

steady_bytes : (n : ℕ) → IsSteady (bytes_at n)
steady_bytes n = record {
  stays = λ bytes more rest x e. more_behind bytes more rest x
      (front_of (λ (l : List ℕ). l) n bytes rest x e);
}
  where
    more_behind : (bytes more rest x : List ℕ) → IsFront n bytes (take n bytes) rest × (take n bytes ≡ x)
        → bytes_at n (bytes ++ more) ≡ Some (x, rest ++ more)
    more_behind bytes more rest x h =
        let long : n ≤ length bytes = h.0.long in
        let still : ltb (length (bytes ++ more)) n ≡ false = le-ltb _ _ (omega (arith, length-append bytes more)) in
        rw (still, take-append-le n bytes more long, drop-append-le n bytes more long, h.1, h.0.rest_is) refl

each_byte : (bytes : List ℕ) → AreBytes bytes → AllByRecursion (λ byte. byte < 256) bytes
each_byte [] fits = tt
each_byte (b ∷ bytes) fits = (fits 0, each_byte bytes (λ i. fits (suc i)))

pub text_spells : ReadsTexts (sure text_read_at) (λ xs. length xs ∷ xs) (λ xs. Unit {0})
    (λ xs. (length xs < 256) × AllByRecursion (λ byte. byte < 256) xs)
text_spells = record {
  again = λ xs rest h.
      let long : ltb (length (xs ++ rest)) (length xs) ≡ false = le-ltb _ _ (omega (arith, length-append xs rest)) in
      rw (long, take_at xs rest (length xs) refl, drop_at xs rest (length xs) refl) refl;
  takes = λ bytes rest xs fit e.
      let a = behind_some (text_read_at bytes) (λ x. give (Ok x)) (Ok xs, rest) e in
      let end = given (done a.0.0) (done xs) a.0.1 rest a.2 in
      let is : a.0.0 ≡ xs = ok_is a.0.0 xs end.0 in
      let b = behind_some (byte_at bytes) bytes_at a.0 a.1 in
      let start = byte_takes bytes b.0 b.1 in
      let f = front_of (λ (l : List ℕ). l) b.0.0 b.0.1 a.0.1 a.0.0 b.2 in
      let n_is : b.0.0 ≡ length xs = counts b.0.0 b.0.1 xs f.0.long (f.1 ∙ is) in
      let small : b.0.0 < 256 = rw (ap (λ (l : List ℕ). get_or l 0 0) start) at (fit 0) in
      let parts : b.0.1 ≡ xs ++ rest =
      parts_of b.0.0 b.0.1 (take b.0.0 b.0.1) a.0.1 f.0 ∙ ap (λ (l : List ℕ). l ++ a.0.1) (f.1 ∙ is)
      ∙ ap (λ (l : List ℕ). xs ++ l) end.1 in (
        start ∙ ap (λ (n : ℕ). n ∷ b.0.1) n_is
            ∙ ap (λ (l : List ℕ). length xs ∷ l) parts,
        (
          subst (λ (n : ℕ). n < 256) n_is small,
          each_byte xs
              (subst (λ (l : List ℕ). AreBytes l) (f.1 ∙ is)
              (AreBytes-take b.0.0 b.0.1 (are_left bytes (b.0.0 ∷ []) b.0.1 start fit))),
        ),
      );
  steady = steady_then (steady_then steady_byte steady_bytes) (λ x. steady_give (Ok x));
}
  where
    counts : (n : ℕ) (from xs : List ℕ) → n ≤ length from → take n from ≡ xs → n ≡ length xs
    counts n from xs long e = let len : length (take n from) ≡ length xs =
        ap (λ (l : List ℕ). length l) e in omega (arith, length-take n from)

-- ---- many things

before_ok : {A : Type 0} (first : Judged A) (others : Judged (List A)) (all : List A) → put_before first others ≡ Ok all
    → (x : A) × (xs : List A) × (first ≡ Ok x) × (others ≡ Ok xs) × (x ∷ xs ≡ all)
before_ok (Ok x) (Ok xs) all e = (x, xs, refl, refl, ok_is (x ∷ xs) all e)
before_ok (Ok x) (Err f) all e = absurd cc
before_ok (Err f) others all e = absurd cc

pub steady_several : {A : Type 0} {one : Reader (Judged A)} → IsSteady one → (n : ℕ) → IsSteady (several one n)
unfolding several
steady_several law zero = steady_give (Ok [])
steady_several law (suc n) = steady_then law
    (λ first. steady_then (steady_several law n) (λ others. steady_give (put_before first others)))

several_again : {A : Type 0} {one : Reader (Judged A)} {text : A → List ℕ} {P G : A → Type 0} → ReadsTexts one text P G
    → (xs : List A) (rest : List ℕ) → AllByRecursion P xs
    → several one (length xs) (flat_map text xs ++ rest) ≡ Some (Ok xs, rest)
unfolding several
several_again law [] rest h = refl
several_again {A} {one} {text} {P} {G} law (x ∷ xs) rest h =
    let regrouped : flat_map text (x ∷ xs) ++ rest ≡ text x ++ (flat_map text xs ++ rest) =
    append_assoc (text x) (flat_map text xs) rest in
    ap (several one (suc (length xs))) regrouped
    ∙ rw (law.again x (flat_map text xs ++ rest) h.0, several_again law xs rest h.1) refl

several_takes : {A : Type 0} {one : Reader (Judged A)} {text : A → List ℕ} {P G : A → Type 0} → ReadsTexts one text P G
    → (n : ℕ) (bytes rest : List ℕ) (all : List A) → AreBytes bytes → several one n bytes ≡ Some (Ok all, rest)
    → (bytes ≡ flat_map text all ++ rest) × (length all ≡ n) × AllByRecursion G all
unfolding several
several_takes {A} {one} {text} {P} {G} law zero bytes rest all fit e =
    let end = given (done []) (done all) bytes rest e in
    let none : [] ≡ all = ok_is [] all end.0 in
    subst (λ (xs : List A). (bytes ≡ flat_map text xs ++ rest) × (length xs ≡ 0) × AllByRecursion G xs) none
    (end.1, refl, tt)
several_takes {A} {one} {text} {P} {G} law (suc n) bytes rest all fit e =
    let a = behind_some (one bytes) (λ x. several one n >>= λ others. give (put_before x others)) (Ok all, rest) e in
    let b = behind_some (several one n a.0.1) (λ others. give (put_before a.0.0 others)) (Ok all, rest) a.2 in
    let end = given (put_before a.0.0 b.0.0) (Ok all) b.0.1 rest b.2 in
    let made = before_ok a.0.0 b.0.0 all end.0 in
    let x = made.0 in
    let xs = made.1 in
    let first : one bytes ≡ Some (Ok x, a.0.1) = a.1 ∙ ap (λ (v : Judged A). Some (v, a.0.1)) made.2 in
    let others : several one n a.0.1 ≡ Some (Ok xs, rest) =
    b.1 ∙ ap (λ (v : Judged (List A)). Some (v, b.0.1)) made.3 ∙ ap (λ (l : List ℕ). Some (Ok xs, l)) end.1 in
    let front = law.takes bytes a.0.1 x fit first in
    let back = several_takes law n a.0.1 rest xs (are_left bytes (text x) a.0.1 front.0 fit) others in
    let whole : bytes ≡ flat_map text (x ∷ xs) ++ rest =
    front.0 ∙ ap (λ (l : List ℕ). text x ++ l) back.0 ∙ sym (append_assoc (text x) (flat_map text xs) rest) in
    subst (λ (ys : List A). (bytes ≡ flat_map text ys ++ rest) × (length ys ≡ suc n) × AllByRecursion G ys) made.4
    (whole, ap suc back.1, (front.1, back.2))

pub several_spells : {A : Type 0} {one : Reader (Judged A)} {text : A → List ℕ} {P G : A → Type 0}
    → ReadsTexts one text P G
    → (n : ℕ) → ReadsTexts (several one n) (flat_map text) (λ xs. (length xs ≡ n) × AllByRecursion P xs)
    (λ xs. (length xs ≡ n) × AllByRecursion G xs)
several_spells {A} {one} {text} {P} {G} law n = record {
  again = λ xs rest h. ap (λ (k : ℕ). several one k (flat_map text xs ++ rest)) (sym h.0)
      ∙ several_again law xs rest h.1;
  takes = λ bytes rest xs fit e. let is = several_takes law n bytes rest xs fit e in (is.0, (is.1, is.2));
  steady = steady_several law.steady n;
}

pub counted_spells : {A : Type 0} {one : Reader (Judged A)} {text : A → List ℕ} {P G : A → Type 0}
    → ReadsTexts one text P G
    → ReadsTexts (counted_at one) (λ xs. length xs ∷ flat_map text xs) (λ xs. AllByRecursion P xs)
    (λ xs. (length xs < 256) × AllByRecursion G xs)
counted_spells {A} {one} {text} {P} {G} law = record {
  again = λ xs rest h. several_again law xs rest h;
  takes = λ bytes rest xs fit e.
      let a = behind_some (byte_at bytes) (several one) (Ok xs, rest) e in
      let start = byte_takes bytes a.0 a.1 in
      let small : a.0.0 < 256 = rw (ap (λ (l : List ℕ). get_or l 0 0) start) at (fit 0) in
      let is = several_takes law a.0.0 a.0.1 rest xs (are_left bytes (a.0.0 ∷ []) a.0.1 start fit) a.2 in (
        start ∙ ap (λ (n : ℕ). n ∷ a.0.1) (sym is.1)
            ∙ ap (λ (l : List ℕ). length xs ∷ l) is.0,
        (subst (λ (n : ℕ). n < 256) (sym is.1) small, is.2),
      );
  steady = steady_then steady_byte (steady_several law.steady);
}
