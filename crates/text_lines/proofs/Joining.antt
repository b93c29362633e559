-- Texts that are put behind one another.

use Rattle.std.proofs.Common.{◌≡◌, ◌≤◌, ◌<◌, ◌-◌, suc, arith, length, sym, nat_eq, slice_index_or, ℕ, ◌==◌, ◌&&◌, Bool}
use Rattle.std.proofs.Common.{true, false, List, [], ◌∷◌, ◌++◌, map, take, refl, ◌∙◌, ap, if◌then◌else◌}
use Rattle.text_lines.specs.Lines as spec
use Rattle.text_lines.proofs.LineLemmas.{and_false}

-- what a byte makes of the lines behind it
abbrev pub with_byte : ℕ → Bool → Bool → List (List ℕ) → List (List ℕ)
with_byte x ends returns behind = if ends then [] ∷ behind else if returns then behind else spec.put_in_front x behind

some_last : (x : ℕ) (p q : Bool) (ls : List (List ℕ)) → q ≡ false → spec.is_out (with_byte x p q ls) ≡ false
some_last x true q ls e = refl
some_last x false true ls e = absurd (cc)
some_last x false false [] e = refl
some_last x false false (l ∷ ls) e = refl

some_more : (x : ℕ) (p q : Bool) (ls : List (List ℕ)) → spec.is_out ls ≡ false
    → spec.is_out (with_byte x p q ls) ≡ false
some_more x true q ls e = refl
some_more x false true ls e = e
some_more x false false [] e = refl
some_more x false false (l ∷ ls) e = refl

-- a text with a byte has a line
pub some_lines : (x : ℕ) (rest : List ℕ) → spec.is_out (spec.lines (x ∷ rest)) ≡ false
unfolding spec.lines
some_lines x [] = some_last x (x == 10) (x == 13 && false) [] (and_false (x == 13))
some_lines x (c ∷ rest) = some_more x (x == 10) (x == 13 && (c == 10)) (spec.lines (c ∷ rest)) (some_lines c rest)

cut_some : (ls : List (List ℕ)) → spec.is_out (map (take 254) ls) ≡ spec.is_out ls
cut_some [] = refl
cut_some (l ∷ ls) = refl

pub none_left : (rest : List ℕ) → rest ≡ [] → spec.is_out (spec.short_lines rest) ≡ true
unfolding spec.lines
none_left rest e = rw e refl

pub some_left : (x : ℕ) (rest : List ℕ) → spec.is_out (spec.short_lines (x ∷ rest)) ≡ false
some_left x rest = cut_some (spec.lines (x ∷ rest)) ∙ some_lines x rest

joined : (x : ℕ) (p q : Bool) (whole front behind : List (List ℕ)) → spec.is_out front ≡ false → whole ≡ front ++ behind
    → with_byte x p q whole ≡ with_byte x p q front ++ behind
joined x true q whole front behind some e = ap (λ ls. [] ∷ ls) e
joined x false true whole front behind some e = e
joined x false false whole [] behind some e = absurd (cc)
joined x false false whole (l ∷ ls) behind some e = ap (spec.put_in_front x) e

last_joined : (x : ℕ) (p q r : Bool) (ls : List (List ℕ)) → p ≡ true → with_byte x p q ls ≡ with_byte x p r [] ++ ls
last_joined x true q r ls e = refl
last_joined x false q r ls e = absurd (cc)

pub lines_join : (a b : List ℕ) → spec.is_ended a ≡ true → spec.lines (a ++ b) ≡ spec.lines a ++ spec.lines b
unfolding spec.lines
lines_join [] b e = refl
lines_join (x ∷ []) b e =
    last_joined x (x == 10) (x == 13 && spec.begins_with_line_end b) (x == 13 && false) (spec.lines b) e
lines_join (x ∷ c ∷ rest) b e =
    joined x (x == 10) (x == 13 && (c == 10)) (spec.lines ((c ∷ rest) ++ b)) (spec.lines (c ∷ rest)) (spec.lines b)
    (some_lines c rest) (lines_join (c ∷ rest) b e)

cut_join : (a b : List (List ℕ)) → map (take 254) (a ++ b) ≡ map (take 254) a ++ map (take 254) b
cut_join [] b = refl
cut_join (l ∷ a) b = ap (λ ls. take 254 l ∷ ls) (cut_join a b)

pub short_join : (a b : List ℕ) → spec.is_ended a ≡ true → spec.short_lines (a ++ b)
    ≡ spec.short_lines a ++ spec.short_lines b
short_join a b e = ap (map (take 254)) (lines_join a b e) ∙ cut_join (spec.lines a) (spec.lines b)

pub ended_join : (a b : List ℕ) → spec.is_ended a ≡ true → spec.is_ended b ≡ true → spec.is_ended (a ++ b) ≡ true
ended_join [] b e f = f
ended_join (x ∷ []) [] e f = e
ended_join (x ∷ []) (y ∷ b) e f = f
ended_join (x ∷ c ∷ rest) b e f = ended_join (c ∷ rest) b e f

pub ended_line : (line : List ℕ) → spec.is_ended (line ++ 10 ∷ []) ≡ true
ended_line [] = refl
ended_line (x ∷ []) = refl
ended_line (x ∷ c ∷ rest) = ended_line (c ∷ rest)

pub out_where_none : (rest : List ℕ) → length rest < 1 → true ≡ spec.is_out (spec.short_lines rest)
out_where_none [] e = sym (none_left [] refl)
out_where_none (x ∷ rest) e = absurd (omega (arith, e))

pub left_where_some : (rest : List ℕ) → 1 ≤ length rest → false ≡ spec.is_out (spec.short_lines rest)
left_where_some [] some = absurd (omega (arith, some))
left_where_some (x ∷ rest) some = sym (some_left x rest)

pub last_byte : (bytes : List ℕ) → 1 ≤ length bytes → nat_eq (slice_index_or bytes (length bytes - 1) 0) 10
    ≡ spec.is_ended bytes
last_byte [] some = absurd (omega (arith, some))
last_byte (x ∷ []) some = refl
last_byte (x ∷ c ∷ rest) some =
    let shorter : length (x ∷ c ∷ rest) - 1 ≡ suc (length (c ∷ rest) - 1) = omega arith in
    ap (λ n. nat_eq (slice_index_or (x ∷ c ∷ rest) n 0) 10) shorter ∙ last_byte (c ∷ rest) (omega arith)
