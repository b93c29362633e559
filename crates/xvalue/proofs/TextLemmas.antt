-- How texts compare, are cut, joined and found.
use Rattle.std.proofs.Common.{◌≡◌, ℕ, zero, suc, ◌+◌, ◌-◌, ◌<◌, ◌≤◌, min, true, false, List, [], ◌∷◌, ◌++◌, length}
use Rattle.std.proofs.Common.{take, drop, replicate, map, refl, sym, ap, ◌∙◌, arith, zero-add, append-nil, append_assoc}
use Rattle.std.proofs.Common.{length-append, length-take, get_or, inl, inr}
use Rattle.std.specs.Prelude.{if◌then◌else◌, Option, Some, None}
use Rattle.std.proofs.Math.Seq.{take-append-add}
use Rattle.std.specs.List.{refill}
use Rattle.std.proofs.lemmas.Bool.{cases_lt}
use Rattle.std.proofs.lemmas.List.{drop_more, take-append-le, take_all, take-replicate, take-map, drop_all}
use Rattle.std.proofs.lemmas.List.{length-replicate, length-map}
use Rattle.fixed_num.specs.Number.{Number}
use Rattle.fixed_num.specs.Text.{printed_in}
use Rattle.xvalue.specs.Shown.{in_ten_places}
use Rattle.xvalue.specs.Texts.{fitting, text_begins_with, repeated, first_place, further}

-- a text that is cut is none too long
pub fitting_short : (cs : List ℕ) → length (fitting cs) ≤ 254
fitting_short cs = omega (arith, length-take 254 cs)

-- the bytes that there is room for
pub append_fitting : (xs ys : List ℕ) (room : ℕ) → room + length xs ≡ 254 → xs ++ take room ys ≡ fitting (xs ++ ys)
append_fitting xs ys room fits =
    let f : length xs + room ≡ 254 = omega arith in
    sym (take-append-add xs ys room) ∙ ap (λ k. take k (xs ++ ys)) f

-- what was cut and goes on is cut once
take_again : (n : ℕ) (xs ys : List ℕ) → take n (take n xs ++ ys) ≡ take n (xs ++ ys)
take_again zero xs ys = refl
take_again (suc n) [] ys = refl
take_again (suc n) (x ∷ xs) ys = ap (λ zs. x ∷ zs) (take_again n xs ys)

fitting-again : (xs ys : List ℕ) → fitting (fitting xs ++ ys) ≡ fitting (xs ++ ys)
fitting-again xs ys = take_again 254 xs ys

-- three texts appended in turn
pub fitting_parts : (text first second third r1 r2 r3 : List ℕ) → text ≡ [] → r1 ≡ fitting (text ++ first)
    → r2 ≡ fitting (r1 ++ second) → r3 ≡ fitting (r2 ++ third) → r3 ≡ fitting (first ++ second ++ third)
fitting_parts text first second third r1 r2 r3 e e1 e2 e3 =
    let f1 : r1 ≡ fitting first = e1 ∙ ap (λ t. fitting (t ++ first)) e in
    let f2 : r2 ≡ fitting (first ++ second) = e2 ∙ ap (λ t. fitting (t ++ second)) f1 ∙ fitting-again first second in
    e3 ∙ ap (λ t. fitting (t ++ third)) f2 ∙ fitting-again (first ++ second) third

-- a text written once more
repeated-push : (n : ℕ) (cs : List ℕ) → repeated n cs ++ cs ≡ cs ++ repeated n cs
repeated-push zero cs = sym (append-nil cs)
repeated-push (suc n) cs = append_assoc cs (repeated n cs) cs ∙ ap (λ ds. cs ++ ds) (repeated-push n cs)

pub repeated_more : (n : ℕ) (cs old new : List ℕ) → old ≡ fitting (repeated n cs) → new ≡ fitting (old ++ cs)
    → new ≡ fitting (repeated (n + 1) cs)
repeated_more n cs old new e f =
    f ∙ ap (λ t. fitting (t ++ cs)) e ∙ fitting-again (repeated n cs) cs ∙ ap fitting (repeated-push n cs)
    ∙ ap (λ k. fitting (repeated k cs)) (let h : suc n ≡ n + 1 = omega arith in h)

repeated-none : (n : ℕ) → repeated n [] ≡ []
repeated-none zero = refl
repeated-none (suc n) = repeated-none n

repeated-add : (n k : ℕ) (cs : List ℕ) → repeated (n + k) cs ≡ repeated n cs ++ repeated k cs
repeated-add zero k cs = ap (λ m. repeated m cs) (zero-add k)
repeated-add (suc n) k cs =
    ap (λ m. repeated m cs) (let h : suc n + k ≡ suc (n + k) = omega arith in h)
    ∙ ap (λ ds. cs ++ ds) (repeated-add n k cs) ∙ sym (append_assoc cs (repeated n cs) (repeated k cs))

repeated-long : (n c : ℕ) (cs : List ℕ) → n ≤ length (repeated n (c ∷ cs))
repeated-long zero c cs = omega arith
repeated-long (suc n) c cs = omega (arith, length-append cs (repeated n (c ∷ cs)), repeated-long n c cs)

-- a text is full after so many times as it has room for bytes
repeated_full : (most n : ℕ) (cs : List ℕ) → take most (repeated (min n most) cs) ≡ take most (repeated n cs)
repeated_full most n [] = ap (take most) (repeated-none (min n most) ∙ sym (repeated-none n))
repeated_full most n (c ∷ cs) =
    elim (cases_lt n most) [
      | inl few ↦ ap (λ k. take most (repeated k (c ∷ cs))) (let h : min n most ≡ n = omega arith in h)
      | inr many ↦
          let split : n ≡ min n most + (n - most) = omega arith in
          let long : most ≤ length (repeated (min n most) (c ∷ cs)) = omega (arith, repeated-long (min n most) c cs) in
          sym (ap (λ k. take most (repeated k (c ∷ cs))) split ∙ ap (take most)
          (repeated-add (min n most) (n - most) (c ∷ cs)) ∙ take-append-le most (repeated (min n most) (c ∷ cs))
          (repeated (n - most) (c ∷ cs)) long)
    ]

pub repeated-most : (n : ℕ) (cs : List ℕ) → fitting (repeated (min n 254) cs) ≡ fitting (repeated n cs)
repeated-most n cs = repeated_full 254 n cs

-- as many blanks as there is room for
blanks_of : (most n blank : ℕ) → take n (replicate most blank) ≡ take most (replicate n blank)
blanks_of most n blank =
    elim (cases_lt n most) [
      | inl few ↦ take-replicate n most blank (omega arith)
          ∙ sym (take_all most (replicate n blank) (omega (arith, length-replicate n blank)))
      | inr many ↦ take_all n (replicate most blank) (omega (arith, length-replicate most blank))
          ∙ sym (take-replicate most n blank many)
    ]

pub blanks_fitting : (n : ℕ) → fitting (take n (replicate 254 32)) ≡ fitting (replicate n 32)
blanks_fitting n =
    ap fitting (blanks_of 254 n 32) ∙ take_all 254 (fitting (replicate n 32)) (fitting_short (replicate n 32))

-- a place at which a text doesn't stand is passed
further-add : (n m : ℕ) (o : Option ℕ) → further n (further m o) ≡ further (n + m) o
further-add n m None = refl
further-add n m (Some before) = ap Some (let h : n + (m + before) ≡ n + m + before = omega arith in h)

first_place-else : (part : List ℕ) (c : ℕ) (cs : List ℕ) → text_begins_with (c ∷ cs) part ≡ false
    → first_place part (c ∷ cs) ≡ further 1 (first_place part cs)
first_place-else part c cs e = ap (λ t. if t then Some 0 else further 1 (first_place part cs)) e

pub first_place-passed : (part whole : List ℕ) (n : ℕ) → n < length whole → text_begins_with (drop n whole) part ≡ false
    → further (n + 1) (first_place part (drop (n + 1) whole)) ≡ further n (first_place part (drop n whole))
first_place-passed part whole n inside h =
    let here : drop n whole ≡ get_or whole n 0 ∷ drop (n + 1) whole = drop_more whole n 0 inside in
    let none : text_begins_with (get_or whole n 0 ∷ drop (n + 1) whole) part ≡ false =
    ap (λ ds. text_begins_with ds part) (sym here) ∙ h in
    sym (ap (λ ds. further n (first_place part ds)) here ∙ ap (further n)
    (first_place-else part (get_or whole n 0) (drop (n + 1) whole) none)
    ∙ further-add n 1 (first_place part (drop (n + 1) whole)))

first_place-then : (part cs : List ℕ) → text_begins_with cs part ≡ true → first_place part cs ≡ Some 0
first_place-then part [] e = ap (λ t. if t then Some 0 else None) e
first_place-then part (c ∷ cs) e = ap (λ t. if t then Some 0 else further 1 (first_place part cs)) e

-- a place at which it stands
pub first_place-there : (part cs : List ℕ) (n : ℕ) (o : Option ℕ) → text_begins_with cs part ≡ true
    → further n (first_place part cs) ≡ o → Some n ≡ o
first_place-there part cs n o e f =
    ap Some (let h : n ≡ n + 0 = omega arith in h) ∙ sym (ap (further n) (first_place-then part cs e)) ∙ f

-- letters of a text that is cut
fitting-map : (f : ℕ → ℕ) (cs : List ℕ) → map f (fitting cs) ≡ fitting (map f cs)
fitting-map f cs = sym (take-map f 254 cs)

-- a field of blanks is as long as wanted
pub field_length : (n width : ℕ) (field : List ℕ) → n ≡ min width 254 → field ≡ fitting (replicate n 32)
    → length field ≡ n
field_length n width field e f = ap length f ∙ length-take 254 (replicate n 32)
    ∙ (let h : min 254 (length (replicate {A = ℕ} n 32)) ≡ n = omega (arith, length-replicate {A = ℕ} n 32) in h)

-- a field that is written over whole
pub refilled : (n : ℕ) (old new : List ℕ) → length old ≡ n → length new ≡ n → refill n old new ≡ new
refilled n old new e f =
    ap (λ rest. take n (new ++ rest)) (drop_all (length new) old (omega (arith, e, f))) ∙ ap (take n) (append-nil new)
    ∙ take_all n new (omega (arith, f))

-- letters that are written over
pub mapped_whole : (f : ℕ → ℕ) (cs old slice new : List ℕ) → old ≡ fitting cs → slice ≡ old → new ≡ map f slice
    → refill (length old) old new ≡ fitting (map f cs)
mapped_whole f cs old slice new is_old same is_new =
    let e : new ≡ map f old = is_new ∙ ap (map f) same in
    refilled (length old) old new refl (ap length e ∙ length-map old f) ∙ e ∙ ap (map f) is_old ∙ fitting-map f cs

-- a number in a field of blanks
pub field_filled : ((width decimals : ℕ) (x : Number) → length (printed_in width decimals x) ≡ width)
    → (n width d decimals : ℕ) (x : Number) (old new : List ℕ) → n ≡ min width 254 → d ≡ min decimals 15
    → old ≡ fitting (replicate n 32) → new ≡ printed_in n d x → refill (length old) old new
    ≡ fitting (printed_in (min width 254) (min decimals 15) x)
field_filled fills n width d decimals x old new e f g h =
    let long : length (printed_in n d x) ≤ 254 = omega (arith, e, fills n d x) in
    let room : length old ≡ n = field_length n width old e g in
    refilled (length old) old new refl (ap length h ∙ fills n d x ∙ sym room)
    ∙ h
    ∙ sym (take_all 254 (printed_in n d x) long)
    ∙ ap (λ k. fitting (printed_in k d x)) e
    ∙ ap (λ k. fitting (printed_in (min width 254) k x)) f

-- a short text in ten places is not cut
pub ten_places : (text front : List ℕ) (k : ℕ) → length text ≤ 24 → k ≡ 10 - length text
    → front ≡ fitting (replicate k 32) → fitting (front ++ text) ≡ in_ten_places text
ten_places text front k short e f =
    let blanks : front ≡ replicate k 32 =
    f ∙ take_all 254 (replicate k 32) (omega (arith, length-replicate {A = ℕ} k 32, e)) in
    let long : length (replicate k 32 ++ text) ≤ 254 =
    omega (arith, length-append (replicate k 32) text, length-replicate {A = ℕ} k 32, e, short) in
    ap (λ cs. fitting (cs ++ text)) blanks ∙ take_all 254 (replicate k 32 ++ text) long
    ∙ ap (λ n. replicate n 32 ++ text) e
