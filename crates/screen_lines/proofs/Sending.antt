-- The rows are found again in the bytes sent.
use Rattle.std.proofs.Common.{◌≡◌, ℕ, ◌-◌, ◌<◌, ◌≤◌, List, [], ◌∷◌, ◌++◌, length, get_or, take, refl, sym, ◌∙◌, ap}
use Rattle.std.proofs.Common.{arith, append_assoc, length-append, length-take, inl, inr, true, false}
use Rattle.std.specs.Prelude.{reverse, nat_eq}
use Rattle.std.specs.List.{All, prefix_len, suffix_len}
use Rattle.std.proofs.lemmas.List.{get_or-replicate, get_or-reverse, get_or-take, get_or_append_left}
use Rattle.std.proofs.lemmas.List.{get_or-append_right, same_lists, append-nil}
use Rattle.std.proofs.lemmas.List.Sums.{prefix_len_passes, suffix_len-le-length}
use Rattle.std.proofs.lemmas.List.Concat.{flat_map-append}
use Rattle.std.proofs.lemmas.List.Elements.{All-head, All-tail, All-take, All-append, All-nil}
use Rattle.std.proofs.lemmas.Bool.{cases_lt}
use Rattle.std.proofs.lemmas.Bool.Decides.{nat_tests}
use Rattle.screen_lines.specs.Roll.{blank_screen_row, is_blank, without_end, line_sent, lines_sent}
use Rattle.screen_lines.specs.Kept.{padded_row, rows_from, rows_sent, AreLines}
use Rattle.screen_lines.specs.Shape.{Shows, IsRow}

pub length-blank_row : length blank_screen_row ≡ 80
unfolding blank_screen_row
length-blank_row = refl

pub get_or-blank_row : (k d : ℕ) → k < 80 → get_or blank_screen_row k d ≡ 32
unfolding blank_screen_row
get_or-blank_row k d h = get_or-replicate 80 k 32 d h

-- what lies in the part that is cut off at the end passes the test
passes_at_end : (row : List ℕ) (k d : ℕ) → k < length row → length row - suffix_len is_blank row ≤ k
    → is_blank (get_or row k d) ≡ true
passes_at_end row k d inside past =
    let back : length row - 1 - k < prefix_len is_blank (reverse row) =
    omega (arith, suffix_len-le-length is_blank row) in
    let there = prefix_len_passes is_blank (reverse row) (length row - 1 - k) d back in
    let same = get_or-reverse row (length row - 1 - k) d (omega arith) in
    let at : length row - 1 - (length row - 1 - k) ≡ k = omega arith in
    rw at at (rw same at there)

blank_at_end : (row : List ℕ) (k d : ℕ) → k < length row → length row - suffix_len is_blank row ≤ k
    → get_or row k d ≡ 32
blank_at_end row k d inside past =
    let passes = passes_at_end row k d inside past in
    grind (arith, nat_tests)

at_place : (row : List ℕ) (n k d : ℕ) → length row ≡ 80 → n ≡ length row - suffix_len is_blank row → k < length row →
    get_or (take 80 (take n row ++ blank_screen_row)) k d ≡ get_or row k d
at_place row n k d wide cut inside =
    let below : k < 80 = omega arith in
    let front : length (take n row) ≡ n = simp length-take (omega arith) in
    let first = get_or-take 80 (take n row ++ blank_screen_row) k d below in
    elim (cases_lt k n) [
      | inl before ↦ (let b : k < length (take n row) = omega arith in first
          ∙ get_or_append_left (take n row) blank_screen_row d k b ∙ get_or-take n row k d before)
      | inr after ↦ first ∙ get_or-append_right (take n row) blank_screen_row n k d front after
          ∙ get_or-blank_row (k - n) d (omega arith)
          ∙ sym (blank_at_end row k d inside (omega arith))
    ]

pub padded-without_end : (row : List ℕ) → length row ≡ 80 → padded_row (without_end is_blank row) ≡ row
padded-without_end row wide =
    let n : ℕ = length row - suffix_len is_blank row in
    let short : n ≤ 80 = omega arith in
    let len : length (take 80 (take n row ++ blank_screen_row)) ≡ length row =
    simp (length-take, length-append, length-blank_row) (omega (arith, length-take n row)) in
    same_lists (take 80 (take n row ++ blank_screen_row)) row len (λ k d h. at_place row n k d wide refl (rw len at h))

-- a line read up to its LF
pub rows_from-line : (start text rest : List ℕ) → All Shows text →
    rows_from start (text ++ 10 ∷ rest) ≡ padded_row (start ++ text) ∷ rows_from [] rest
rows_from-line start [] rest plain = rw append-nil refl
rows_from-line start (x ∷ text) rest plain =
    let above : 32 ≤ x = (All-head Shows x text plain).0 in
    let not_end : nat_eq x 10 ≡ false = grind (arith, nat_tests) in
    let next = rows_from-line (start ++ x ∷ []) text rest (All-tail Shows x text plain) in
    rw (not_end, next) (simp append_assoc)

pub rows_sent-lines : (rows : List (List ℕ)) (rest : List ℕ) → All IsRow rows
    → rows_sent (lines_sent rows ++ rest) ≡ rows ++ rows_sent rest
rows_sent-lines [] rest all = refl
rows_sent-lines (row ∷ rows) rest all =
    let is_row = All-head IsRow row rows all in
    let plain = All-take Shows (length row - suffix_len is_blank row) row is_row.plain in
    let read = rows_from-line [] (without_end is_blank row) (lines_sent rows ++ rest) plain in
    let next = rows_sent-lines rows rest (All-tail IsRow row rows all) in
    let same = padded-without_end row is_row.wide in
    let split : lines_sent (row ∷ rows) ++ rest ≡ without_end is_blank row ++ 10 ∷ (lines_sent rows ++ rest) =
    simp append_assoc in
    rw (split, read, same, next) refl

-- more rows are sent
pub rows_sent-append : (bytes : List ℕ) (rows : List (List ℕ)) → AreLines bytes → All IsRow rows
    → rows_sent (bytes ++ lines_sent rows) ≡ rows_sent bytes ++ rows
rows_sent-append bytes rows are all =
    let old = rows_sent bytes in
    let joined : bytes ++ lines_sent rows ≡ lines_sent (old ++ rows) ++ [] =
    ap (λ b. b ++ lines_sent rows) are.whole ∙ sym (flat_map-append line_sent old rows)
    ∙ sym (append-nil (lines_sent (old ++ rows))) in
    let read = rows_sent-lines (old ++ rows) [] (All-append IsRow old rows are.rows all) in
    ap rows_sent joined ∙ read ∙ append-nil (old ++ rows)

pub AreLines-append : (bytes : List ℕ) (rows : List (List ℕ)) → AreLines bytes → All IsRow rows
    → AreLines (bytes ++ lines_sent rows)
AreLines-append bytes rows are all =
    let read = rows_sent-append bytes rows are all in
    record {
      whole = ap (λ b. b ++ lines_sent rows) are.whole ∙ sym (flat_map-append line_sent (rows_sent bytes) rows)
          ∙ ap lines_sent (sym read);
      rows = rw read (All-append IsRow (rows_sent bytes) rows are.rows all);
    }

pub AreLines-nil : AreLines []
AreLines-nil = record { whole = refl; rows = All-nil IsRow }
