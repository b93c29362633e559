-- Lemmas on the lines of a text.

use Rattle.std.proofs.Common.{◌≡◌, ℕ, suc, ◌+◌, ◌-◌, ◌<◌, ◌≤◌, ◌==◌, ◌&&◌, Bool, true, false, not, List, [], ◌∷◌, ◌++◌}
use Rattle.std.proofs.Common.{length, take, drop, reverse, refl, sym, ◌∙◌, ap, subst, arith, if◌then◌else◌}
use Rattle.std.specs.List.{prefix_len}
use Rattle.std.proofs.lemmas.List.{take-append-drop, append-nil, reverse-append, length-reverse, take_all}
use Rattle.std.proofs.lemmas.Bool.{eqb-true}
use Rattle.text_lines.specs.Lines as spec

-- whether a line end is among the bytes
abbrev pub has_end : List ℕ → Bool
has_end [] = false
has_end (b ∷ rest) = if b == 10 then true else has_end rest

abbrev pub is_other : ℕ → Bool
is_other b = not (b == 10)

pub and_false : (x : Bool) → (x && false) ≡ false
and_false true = refl
and_false false = refl

first_is : (x y : Bool) → (if x then true else y) ≡ false → x ≡ false
first_is true y h = h
first_is false y h = refl

others_are : (x y : Bool) → (if x then true else y) ≡ false → y ≡ false
others_are true y h = cc
others_are false y h = h

-- a byte that ends no line stands in front of the first line
lines-byte : (b : ℕ) (rest : List ℕ) → (b == 10) ≡ false → (b == 13 && spec.begins_with_line_end rest) ≡ false
    → spec.lines (b ∷ rest) ≡ spec.put_in_front b (spec.lines rest)
unfolding spec.lines
lines-byte b rest e f = rw (e, f) refl

-- a return before a line end is no part of the line
lines-return : (b : ℕ) (rest : List ℕ) → (b == 10) ≡ false → (b == 13) ≡ true
    → spec.lines (b ∷ 10 ∷ rest) ≡ [] ∷ spec.lines rest
unfolding spec.lines
lines-return b rest e f = rw (e, f) refl

lines-end : (rest : List ℕ) → spec.lines (10 ∷ rest) ≡ [] ∷ spec.lines rest
unfolding spec.lines
lines-end rest = refl

pub lines-none : spec.lines [] ≡ []
unfolding spec.lines
lines-none = refl

strip-behind : (b c : ℕ) (line others : List ℕ) (x : Bool) → (c == 13) ≡ x
    → spec.strip_return (b ∷ line) (c ∷ (others ++ b ∷ [])) ≡ b ∷ spec.strip_return line (c ∷ others)
strip-behind b c line others true e = rw (e, reverse-append others (b ∷ [])) refl
strip-behind b c line others false e = rw (e) refl

-- the end of a line doesn't depend on its first byte
return-behind : (b c : ℕ) (line others : List ℕ) → reverse line ≡ c ∷ others
    → spec.without_return (b ∷ line) ≡ b ∷ spec.without_return line
unfolding spec.without_return
return-behind b c line others e =
    rw (reverse-append (b ∷ []) line, e) (strip-behind b c line others (c == 13) refl)

absurd_zero : {n : ℕ} → n ≡ 0 → 0 < n → ⊥
absurd_zero e h = omega arith

some_behind : (b : ℕ) (line last : List ℕ) → reverse line ≡ last → 0 < length line
    → spec.without_return (b ∷ line) ≡ b ∷ spec.without_return line
some_behind b line [] e h =
    let l : length line ≡ 0 = sym (length-reverse line) ∙ ap length e in elim (absurd_zero l h) [ ]
some_behind b line (c ∷ others) e h = return-behind b c line others e

one_ended : (b : ℕ) (rest : List ℕ) (x : Bool) → (b == 10) ≡ false → (b == 13) ≡ x
    → spec.lines (b ∷ 10 ∷ rest) ≡ spec.without_return (b ∷ []) ∷ spec.lines rest
unfolding spec.without_return
one_ended b rest true e f = lines-return b rest e f ∙ rw (f) refl
one_ended b rest false e f =
    let g : (b == 13 && true) ≡ false = rw (f) refl in
    lines-byte b (10 ∷ rest) e g ∙ rw (lines-end rest, f) refl

-- a line with its end in front of other lines
lines-ended : (front rest : List ℕ) → has_end front ≡ false → spec.lines (front ++ 10 ∷ rest)
    ≡ spec.without_return front ∷ spec.lines rest
unfolding spec.without_return
lines-ended [] rest h = lines-end rest
lines-ended (b ∷ []) rest h =
    let e : (b == 10) ≡ false = first_is (b == 10) false h in one_ended b rest (b == 13) e refl
lines-ended (b ∷ c ∷ more) rest h =
    let e : (b == 10) ≡ false = first_is (b == 10) (has_end (c ∷ more)) h in
    let i : has_end (c ∷ more) ≡ false = others_are (b == 10) (has_end (c ∷ more)) h in
    let d : (c == 10) ≡ false = first_is (c == 10) (has_end more) i in
    let f : (b == 13 && (c == 10)) ≡ false = rw (d) (and_false (b == 13)) in
    lines-byte b (c ∷ (more ++ 10 ∷ rest)) e f
    ∙ ap (spec.put_in_front b) (lines-ended (c ∷ more) rest i)
    ∙ ap (λ l. l ∷ spec.lines rest) (sym (some_behind b (c ∷ more) (reverse (c ∷ more)) refl (omega arith)))

-- a line without an end is the last one
lines-last : (front : List ℕ) → has_end front ≡ false → 0 < length front → spec.lines front ≡ front ∷ []
lines-last [] h some = elim (absurd_zero refl some) [ ]
lines-last (b ∷ []) h some =
    lines-byte b [] (first_is (b == 10) false h) (and_false (b == 13)) ∙ ap (spec.put_in_front b) lines-none
lines-last (b ∷ c ∷ more) h some =
    let e : (b == 10) ≡ false = first_is (b == 10) (has_end (c ∷ more)) h in
    let i : has_end (c ∷ more) ≡ false = others_are (b == 10) (has_end (c ∷ more)) h in
    let d : (c == 10) ≡ false = first_is (c == 10) (has_end more) i in
    let f : (b == 13 && (c == 10)) ≡ false = rw (d) (and_false (b == 13)) in
    lines-byte b (c ∷ more) e f ∙ ap (spec.put_in_front b) (lines-last (c ∷ more) i (omega arith))

no_end-step : (b : ℕ) (bytes : List ℕ) (n : ℕ) (x : Bool) → (b == 10) ≡ x → has_end (take n bytes) ≡ false
    → has_end (take (if not x then 1 + n else 0) (b ∷ bytes)) ≡ false
no_end-step b bytes n true e h = refl
no_end-step b bytes n false e h = let one : 1 + n ≡ suc n = omega arith in rw (one, e) h

no_end-take : (bytes : List ℕ) → has_end (take (prefix_len is_other bytes) bytes) ≡ false
no_end-take [] = refl
no_end-take (b ∷ bytes) = no_end-step b bytes (prefix_len is_other bytes) (b == 10) refl (no_end-take bytes)

stop-step : (b c : ℕ) (bytes behind : List ℕ) (n : ℕ) (x : Bool) → (b == 10) ≡ x
    → (drop n bytes ≡ c ∷ behind → (c == 10) ≡ true) → drop (if not x then 1 + n else 0) (b ∷ bytes) ≡ c ∷ behind
    → (c == 10) ≡ true
stop-step b c bytes behind n true e f h = let same : b ≡ c = cc in subst (λ (d : ℕ). (d == 10) ≡ true) same e
stop-step b c bytes behind n false e f h = let one : 1 + n ≡ suc n = omega arith in f (rw (one) at h)

-- what stops the bytes before a line end is one
stop-is : (bytes : List ℕ) (c : ℕ) (behind : List ℕ) → drop (prefix_len is_other bytes) bytes ≡ c ∷ behind
    → (c == 10) ≡ true
stop-is [] c behind h = cc
stop-is (b ∷ bytes) c behind h =
    stop-step b c bytes behind (prefix_len is_other bytes) (b == 10) refl (stop-is bytes c behind) h

ten : (c : ℕ) → (c == 10) ≡ true → c ≡ 10
ten c e = eqb-true c 10 e

pub first-ended : (bytes front behind : List ℕ) (c : ℕ) → front ≡ take (prefix_len is_other bytes) bytes
    → drop (prefix_len is_other bytes) bytes ≡ c ∷ behind → spec.lines bytes
    ≡ spec.without_return front ∷ spec.lines behind
first-ended bytes front behind c e f =
    let n = prefix_len is_other bytes in
    let is_ten : c ≡ 10 = ten c (stop-is bytes c behind f) in
    let whole : bytes ≡ front ++ 10 ∷ behind = sym (take-append-drop n bytes) ∙ ap (λ d. take n bytes ++ d) f
    ∙ ap (λ a. a ++ c ∷ behind) (sym e) ∙ ap (λ (d : ℕ). front ++ d ∷ behind) is_ten in
    ap spec.lines whole ∙ lines-ended front behind
    (subst (λ (l : List ℕ). has_end l ≡ false) (sym e) (no_end-take bytes))

pub first-last : (bytes front : List ℕ) → 0 < length bytes → front ≡ take (prefix_len is_other bytes) bytes
    → drop (prefix_len is_other bytes) bytes ≡ [] → spec.lines bytes ≡ front ∷ spec.lines []
first-last bytes front some e f =
    let n = prefix_len is_other bytes in
    let whole : bytes ≡ front =
    sym (take-append-drop n bytes) ∙ ap (λ d. take n bytes ++ d) f ∙ append-nil (take n bytes) ∙ sym e in
    ap spec.lines whole
    ∙ lines-last front (subst (λ (l : List ℕ). has_end l ≡ false) (sym e) (no_end-take bytes))
    (subst (λ (l : List ℕ). 0 < length l) whole some)
    ∙ ap (λ l. front ∷ l) (sym lines-none)

pub first-of-two : (bytes front rest : List ℕ) → front ≡ take (prefix_len is_other bytes) bytes
    → rest ≡ drop (prefix_len is_other bytes) bytes → 1 ≤ length rest
    → spec.lines bytes ≡ spec.without_return front ∷ spec.lines (take (length rest - 1) (drop 1 rest))
first-of-two bytes front [] e f some = elim (absurd_zero refl (omega arith)) [ ]
first-of-two bytes front (c ∷ behind) e f some =
    let all : take (length (c ∷ behind) - 1) (drop 1 (c ∷ behind)) ≡ behind =
    take_all (length (c ∷ behind) - 1) behind (omega arith) in
    first-ended bytes front behind c e (sym f) ∙ ap (λ l. spec.without_return front ∷ spec.lines l) (sym all)

pub first-of-one : (bytes front rest : List ℕ) → 0 < length bytes → front ≡ take (prefix_len is_other bytes) bytes
    → rest ≡ drop (prefix_len is_other bytes) bytes → length rest < 1 → spec.lines bytes ≡ front ∷ spec.lines rest
first-of-one bytes front [] some e f none = first-last bytes front some e (sym f)
first-of-one bytes front (c ∷ behind) some e f none = elim (absurd_zero {n = 0} refl (omega arith)) [ ]
