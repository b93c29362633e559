-- Changes of rows as changes of their bytes.
use Rattle.std.proofs.Common.{◌≡◌, ◌==◌, ℕ, zero, suc, ◌+◌, ◌*◌, ◌-◌, ◌<◌, ◌≤◌, List, [], ◌∷◌, ◌++◌, length, get_or}
use Rattle.std.proofs.Common.{take, drop, set, map, Bool, false, refl, sym, ap, ◌∙◌, arith, length-drop}
use Rattle.std.proofs.Common.{replicate, add-one}
use Rattle.std.proofs.Math.Nat.{mul-le-mul_right}
use Rattle.std.proofs.lemmas.List.{nil_from_length, take-append-le, drop-append-le, drop-set-add, take-set-le}
use Rattle.std.proofs.lemmas.List.{drop-set-lt, get_or-take, take-replicate, drop-replicate}
use Rattle.dbf_file.specs.Fields.{total, size_of}
use Rattle.dbf_file.specs.Rows.{Row, mark_byte, texts_cut, row_in, rows_in, with_text, with_mark, blank_row}
use Rattle.dbf_file.specs.Lending.{put_over, place_of_field}
use Rattle.dbf_file.proofs.PlaceLemmas.{take-put, drop-put, drop-put_past, total_before}
use Rattle.dbf_file.proofs.RowLemmas.{row_same, texts_put}
use Rattle.dbf_file.proofs.TextRowLemmas.{marked_again}

-- ---- a text put into a field

-- the byte before a place stays
first_put : (place : ℕ) (text bytes : List ℕ) → 1 ≤ place → place ≤ length bytes
    → get_or (put_over place text bytes) 0 0 ≡ get_or bytes 0 0
first_put place text bytes some within =
    sym (get_or-take 1 (put_over place text bytes) 0 0 (omega arith))
    ∙ ap (λ (front : List ℕ). get_or front 0 0) (take-put 1 place text bytes some within)
    ∙ get_or-take 1 bytes 0 0 (omega arith)

-- a field lies within its row
pub place_within : (ws : List ℕ) (n r f : ℕ) (text : List ℕ) → r < n → f < length ws → length text ≡ get_or ws f 0
    → place_of_field ws r f + length text ≤ n * size_of ws
place_within ws n r f text row field fits =
    let before = total_before f ws field in
    let rows : (r + 1) * size_of ws ≤ n * size_of ws = mul-le-mul_right (size_of ws) (omega arith) in
    omega arith

-- the first row, and the place of the field in it
row_put : (ws : List ℕ) (f : ℕ) (text bytes : List ℕ) → f < length ws → length text ≡ get_or ws f 0
    → size_of ws ≤ length bytes →
    row_in ws (put_over (1 + total (take f ws)) text bytes)
    ≡ record { marked = (row_in ws bytes).marked; texts = set (row_in ws bytes).texts f text }
unfolding row_in
row_put ws f text bytes field fits within =
    let before = total_before f ws field in
    let less = length-drop 1 bytes in
    let mark : get_or (put_over (1 + total (take f ws)) text bytes) 0 0 ≡ get_or bytes 0 0 =
    first_put (1 + total (take f ws)) text bytes (omega arith) (omega arith) in
    ap (λ (b : ℕ).
    record { marked = b == 42; texts = texts_cut ws (drop 1 (put_over (1 + total (take f ws)) text bytes)) }) mark
    ∙ ap (λ (rest : List ℕ). record { marked = get_or bytes 0 0 == 42; texts = texts_cut ws rest })
    (drop-put 1 (total (take f ws)) text bytes (omega arith))
    ∙ ap (λ (texts : List (List ℕ)). record { marked = get_or bytes 0 0 == 42; texts = texts })
    (texts_put ws f text (drop 1 bytes) field fits (omega arith))

-- a place behind so many rows
step_place : (ws : List ℕ) (r f : ℕ) → place_of_field ws (suc r) f ≡ size_of ws + place_of_field ws r f
step_place ws r f = omega arith

pub rows_put : (ws : List ℕ) (n r f : ℕ) (text bytes : List ℕ) → r < n → f < length ws → length text ≡ get_or ws f 0
    → n * size_of ws ≤ length bytes →
    rows_in ws n (put_over (place_of_field ws r f) text bytes) ≡ with_text (rows_in ws n bytes) r f text
unfolding rows_in
rows_put ws zero r f text bytes row field fits within = absurd (omega arith)
rows_put ws (suc n) zero f text bytes row field fits within =
    let before = total_before f ws field in
    let enough : size_of ws ≤ length bytes = omega arith in
    let here : place_of_field ws 0 f ≡ 1 + total (take f ws) = omega arith in
    ap (λ place. row_in ws (put_over place text bytes) ∷ rows_in ws n (drop (size_of ws) (put_over place text bytes)))
    here
    ∙ ap (λ (one : Row). one ∷ rows_in ws n (drop (size_of ws) (put_over (1 + total (take f ws)) text bytes)))
    (row_put ws f text bytes field fits enough)
    ∙ ap (λ (rest : List ℕ). record { marked = (row_in ws bytes).marked; texts = set (row_in ws bytes).texts f text }
    ∷ rows_in ws n rest)
    (drop-put_past (size_of ws) (1 + total (take f ws)) text bytes (omega arith) (omega arith))
rows_put ws (suc n) (suc r) f text bytes row field fits within =
    let less = length-drop (size_of ws) bytes in
    let enough : n * size_of ws ≤ length (drop (size_of ws) bytes) = omega arith in
    let before = total_before f ws field in
    let below = place_within ws n r f text (omega arith) field fits in
    ap (λ place. row_in ws (put_over place text bytes) ∷ rows_in ws n (drop (size_of ws) (put_over place text bytes)))
    (step_place ws r f)
    ∙ ap (λ (one : Row). one ∷ rows_in ws n
    (drop (size_of ws) (put_over (size_of ws + place_of_field ws r f) text bytes)))
    (row_same ws (put_over (size_of ws + place_of_field ws r f) text bytes) bytes
    (take-put (size_of ws) (size_of ws + place_of_field ws r f) text bytes (omega arith) (omega arith)))
    ∙ ap (λ (rest : List ℕ). row_in ws bytes ∷ rows_in ws n rest)
    (drop-put (size_of ws) (place_of_field ws r f) text bytes (omega arith))
    ∙ ap (λ (rows : List Row). row_in ws bytes ∷ rows)
    (rows_put ws n r f text (drop (size_of ws) bytes) (omega arith) field fits enough)

-- ---- a mark set

row_marked : (ws : List ℕ) (marked : Bool) (bytes : List ℕ) → 0 < length bytes
    → row_in ws (set bytes 0 (mark_byte marked)) ≡ record { marked = marked; texts = (row_in ws bytes).texts }
unfolding row_in
row_marked ws marked [] some = absurd (omega arith)
row_marked ws marked (b ∷ bytes) some =
    ap (λ (m : Bool). record { marked = m; texts = texts_cut ws bytes }) (marked_again marked)

pub rows_marked : (ws : List ℕ) (n r : ℕ) (marked : Bool) (bytes : List ℕ) → r < n → n * size_of ws ≤ length bytes →
    rows_in ws n (set bytes (r * size_of ws) (mark_byte marked)) ≡ with_mark (rows_in ws n bytes) r marked
unfolding rows_in
rows_marked ws zero r marked bytes row within = absurd (omega arith)
rows_marked ws (suc n) zero marked bytes row within =
    let none : 0 * size_of ws ≡ 0 = omega arith in
    ap (λ k. row_in ws (set bytes k (mark_byte marked)) ∷ rows_in ws n
    (drop (size_of ws) (set bytes k (mark_byte marked)))) none
    ∙ ap (λ (one : Row). one ∷ rows_in ws n (drop (size_of ws) (set bytes 0 (mark_byte marked))))
    (row_marked ws marked bytes (omega arith))
    ∙ ap (λ (rest : List ℕ). record { marked = marked; texts = (row_in ws bytes).texts } ∷ rows_in ws n rest)
    (drop-set-lt (size_of ws) bytes 0 (mark_byte marked) (omega arith))
rows_marked ws (suc n) (suc r) marked bytes row within =
    let next : suc r * size_of ws ≡ size_of ws + r * size_of ws = omega arith in
    let less = length-drop (size_of ws) bytes in
    ap (λ k. row_in ws (set bytes k (mark_byte marked)) ∷ rows_in ws n
    (drop (size_of ws) (set bytes k (mark_byte marked)))) next
    ∙ ap (λ (one : Row). one ∷ rows_in ws n
    (drop (size_of ws) (set bytes (size_of ws + r * size_of ws) (mark_byte marked))))
    (row_same ws (set bytes (size_of ws + r * size_of ws) (mark_byte marked)) bytes
    (take-set-le (size_of ws) bytes (size_of ws + r * size_of ws) (mark_byte marked) (omega arith)))
    ∙ ap (λ (rest : List ℕ). row_in ws bytes ∷ rows_in ws n rest)
    (drop-set-add (size_of ws) bytes (r * size_of ws) (mark_byte marked))
    ∙ ap (λ (rows : List Row). row_in ws bytes ∷ rows)
    (rows_marked ws n r marked (drop (size_of ws) bytes) (omega arith) (omega arith))

-- ---- a row more

more_at : (ws : List ℕ) (n : ℕ) (bytes more : List ℕ) → length bytes ≡ n * size_of ws
    → rows_in ws (suc n) (bytes ++ more) ≡ rows_in ws n bytes ++ row_in ws more ∷ []
unfolding rows_in
more_at ws zero bytes more whole =
    let none : bytes ≡ [] = nil_from_length bytes (omega arith) in
    ap (λ (front : List ℕ). row_in ws (front ++ more) ∷ []) none
more_at ws (suc n) bytes more whole =
    let enough : size_of ws ≤ length bytes = omega arith in
    let less = length-drop (size_of ws) bytes in
    let rest : length (drop (size_of ws) bytes) ≡ n * size_of ws = omega arith in
    ap (λ (one : Row). one ∷ rows_in ws (suc n) (drop (size_of ws) (bytes ++ more)))
    (row_same ws (bytes ++ more) bytes (take-append-le (size_of ws) bytes more enough))
    ∙ ap (λ (others : List ℕ). row_in ws bytes ∷ rows_in ws (suc n) others)
    (drop-append-le (size_of ws) bytes more enough)
    ∙ ap (λ (rows : List Row). row_in ws bytes ∷ rows) (more_at ws n (drop (size_of ws) bytes) more rest)

pub rows_more : (ws : List ℕ) (n : ℕ) (bytes more : List ℕ) → length bytes ≡ n * size_of ws
    → rows_in ws (n + 1) (bytes ++ more) ≡ rows_in ws n bytes ++ row_in ws more ∷ []
rows_more ws n bytes more whole = rw add-one (more_at ws n bytes more whole)

-- ---- a row of blanks

blank_texts : (ws : List ℕ) → texts_cut ws (replicate (total ws) 32) ≡ map (λ width. replicate width 32) ws
unfolding texts_cut
blank_texts [] = refl
blank_texts (w ∷ ws) =
    let back : w + total ws - w ≡ total ws = omega arith in
    ap (λ (one : List ℕ). one ∷ texts_cut ws (drop w (replicate (w + total ws) 32)))
    (take-replicate w (w + total ws) 32 (omega arith))
    ∙ ap (λ (rest : List ℕ). replicate w 32 ∷ texts_cut ws rest)
    (drop-replicate w (w + total ws) 32 ∙ ap (λ n. replicate n 32) back)
    ∙ ap (λ (texts : List (List ℕ)). replicate w 32 ∷ texts) (blank_texts ws)

pub blank_is : (ws : List ℕ) → row_in ws (replicate (size_of ws) 32) ≡ blank_row ws
unfolding row_in
blank_is ws =
    let one : size_of ws ≡ suc (total ws) = omega arith in
    ap (λ n. row_in ws (replicate n 32)) one ∙ ap (λ (texts : List (List ℕ)). record { marked = false; texts = texts })
    (blank_texts ws)
