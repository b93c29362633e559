-- Tables and their parts.
use Rattle.std.proofs.Common.{◌≡◌, ◌==◌, ℕ, ◌+◌, ◌*◌, ◌-◌, ◌/◌, ◌^◌, ◌<◌, ◌≤◌, List, [], ◌∷◌, ◌++◌, length, get_or}
use Rattle.std.proofs.Common.{take, drop, set, Bool, true, false, cond, refl, sym, ap, ◌∙◌, arith, length-append}
use Rattle.std.proofs.Common.{length-drop, replicate, eqb-true}
use Rattle.std.proofs.Math.Nat.{mul-le-mul, mul-le-mul_right, add-div_left, div-mul-le_self}
use Rattle.std.proofs.lemmas.Nat.{le-div}
use Rattle.std.proofs.lemmas.List.{length-map, get_or_read, length-take-le, length-replicate, append-nil, drop_all}
use Rattle.std.proofs.lemmas.List.{take_all}
use Rattle.dbf_file.specs.declared.field.Field.{Field}
use Rattle.dbf_file.specs.Fields.{widths_of, size_of}
use Rattle.dbf_file.specs.Rows.{Row, mark_byte, rows_text, rows_in, is_marked_at, text_at, with_text, with_mark}
use Rattle.dbf_file.specs.Rows.{blank_row}
use Rattle.dbf_file.specs.Tables.{StructureState, TableState, IsStructure, AreRows, row_widths}
use Rattle.dbf_file.specs.Kept.{IsKept}
use Rattle.dbf_file.specs.Lending.{place_of_field, put_over, put_within, rows_left}
use Rattle.dbf_file.proofs.PlaceLemmas.{total_before}
use Rattle.dbf_file.proofs.RowLemmas.{length-rows_in, text_is, mark_is}
use Rattle.dbf_file.proofs.ChangeLemmas.{rows_put, rows_marked, rows_more, blank_is}
use Rattle.dbf_file.proofs.TextRowLemmas.{rows_have_widths}
use Rattle.dbf_file.proofs.FileLemmas.{good_fields}
use Rattle.dbf_file.proofs.AlikeLemmas.{alike_rows, alike_put, alike_text, length-put}

-- ---- what is kept

pub enough : (s : StructureState) (size n : ℕ) (xs : List ℕ) → IsKept s size n xs
    → length xs ≡ n * size_of (row_widths s)
enough s size n xs kept = kept.whole ∙ ap (λ k. n * k) kept.right_size

pub small_size : (s : StructureState) (size : ℕ) → IsStructure s → size ≡ size_of (row_widths s)
    → (0 < size) × (size ≤ 4000)
small_size s size good right = let small = (good_fields s.fields good.fields).small in (omega arith, omega arith)

-- so many rows lie in 2 ^ 32 * 4000 bytes
pub places_fit : (n size : ℕ) → n ≤ 2 ^ 32 → size ≤ 4000 → n * size ≤ 2 ^ 32 * 4000
places_fit n size few small = mul-le-mul few small

pub sound_of : (s : StructureState) (size n : ℕ) (xs : List ℕ) → IsKept s size n xs
    → AreRows s (rows_in (row_widths s) n xs)
sound_of s size n xs kept =
    let count = length-rows_in (row_widths s) n xs in
    let whole = enough s size n xs kept in
    record { each = rows_have_widths (row_widths s) n xs (omega arith); count = omega (arith, kept.few) }

pub kept_same : (s : StructureState) (size n : ℕ) (xs ys : List ℕ) → IsKept s size n xs → length ys ≡ length xs
    → IsKept s size n ys
kept_same s size n xs ys kept same =
    record { good = kept.good; right_size = kept.right_size; whole = same ∙ kept.whole; few = kept.few }

pub kept_none : (s : StructureState) (size n : ℕ) (xs ys : List ℕ) → IsKept s size n xs → ys ≡ [] → IsKept s size 0 ys
kept_none s size n xs ys kept none =
    record { good = kept.good; right_size = kept.right_size; whole = ap length none ∙ omega arith; few = omega arith }

pub no_rows : (ws xs : List ℕ) → rows_in ws 0 xs ≡ []
unfolding rows_in
no_rows ws xs = refl

-- ---- a row more

pub with_blank : (xs ys : List ℕ) (len was size : ℕ) → length xs ≡ len → was ≡ len
    → ys ≡ take (len + size) xs ++ replicate (len + size - was) 32 → ys ≡ xs ++ replicate size 32
with_blank xs ys len was size long same made =
    let more : len + size - was ≡ size = omega arith in
    made ∙ ap (λ (front : List ℕ). front ++ replicate (len + size - was) 32) (take_all (len + size) xs (omega arith))
    ∙ ap (λ k. xs ++ replicate k 32) more

pub kept_more : (s : StructureState) (size n : ℕ) (xs ys : List ℕ) → IsKept s size n xs → n < 1000000
    → ys ≡ xs ++ replicate size 32 → IsKept s size (n + 1) ys
kept_more s size n xs ys kept few made =
    let blanks : List ℕ = replicate size 32 in
    let long = length-append xs blanks in
    let more : length blanks ≡ size = length-replicate size 32 in
    record {
      good = kept.good;
      right_size = kept.right_size;
      whole = ap length made
          ∙ omega (arith, kept.whole, long, more);
      few = omega arith;
    }

pub rows_with_blank : (s : StructureState) (size n : ℕ) (xs ys : List ℕ) → IsKept s size n xs
    → ys ≡ xs ++ replicate size 32 → rows_in (row_widths s) (n + 1) ys
    ≡ rows_in (row_widths s) n xs ++ blank_row (row_widths s) ∷ []
rows_with_blank s size n xs ys kept made =
    let ws : List ℕ = row_widths s in
    ap (rows_in ws (n + 1)) (made ∙ ap (λ k. xs ++ replicate k 32) kept.right_size)
    ∙ rows_more ws n xs (replicate (size_of ws) 32) (enough s size n xs kept)
    ∙ ap (λ (row : Row). rows_in ws n xs ++ row ∷ []) (blank_is ws)

pub room_for_one : (size len cap : ℕ) → 0 < size → len + size ≤ cap → 0 < (cap - len) / size
room_for_one size len cap some room =
    let rest : size + (cap - len - size) ≡ cap - len = omega arith in
    let one : (cap - len) / size ≡ (cap - len - size) / size + 1 =
    ap (λ k. k / size) (sym rest) ∙ add-div_left (cap - len - size) some in
    omega arith

-- a row takes the room of one
pub room_less : (size len before after : ℕ) → 0 < size → before ≤ after
    → (before - len) / size ≤ (after - (len + size)) / size + 1
room_less size len before after some more =
    let one : (size + (after - (len + size))) / size ≡ (after - (len + size)) / size + 1 =
    add-div_left (after - (len + size)) some in
    let below : (before - len) / size ≤ (size + (after - (len + size))) / size = le-div ((before - len) / size)
    (size + (after - (len + size))) size some
    (let down = div-mul-le_self (before - len) size in omega (arith, down)) in
    omega arith

-- ---- a field

pub row_below : (t : TableState) (ws xs : List ℕ) (n r : ℕ) → rows_in ws n xs ≡ t.rows → r < length t.rows → r < n
row_below t ws xs n r same below = let count = length-rows_in ws n xs in omega (arith, ap length same)

pub field_within : (ws : List ℕ) (n r f : ℕ) → r < n → f < length ws
    → place_of_field ws r f + get_or ws f 0 ≤ n * size_of ws
field_within ws n r f row field =
    let before = total_before f ws field in
    let rows : (r + 1) * size_of ws ≤ n * size_of ws =
    mul-le-mul_right (size_of ws) (let next : r + 1 ≤ n = omega arith in next) in
    omega arith

pub field_text : (ws xs : List ℕ) (n r f start end : ℕ) → start ≡ place_of_field ws r f → end ≡ start + get_or ws f 0
    → r < n → f < length ws → take (end - start) (drop start xs) ≡ text_at (rows_in ws n xs) r f
field_text ws xs n r f start end at until row field =
    let long : end - start ≡ get_or ws f 0 = omega arith in
    ap (λ k. take k (drop start xs)) long ∙ ap (λ k. take (get_or ws f 0) (drop k xs)) at
    ∙ sym (text_is ws n r f xs row field)

-- ---- a text left in a field

-- what a slice of a vector leaves in the vector
pub left_items : (place len : ℕ) (text xs : List ℕ) → length xs ≡ len → place ≤ length xs →
    take len (put_over place text xs ++ drop (length (put_over place text xs)) xs) ≡ put_within place text xs
left_items place len text xs whole within =
    let front = length-take-le place xs within in
    let behind = length-append text (drop (length text) (drop place xs)) in
    let all = length-append (take place xs) (text ++ drop (length text) (drop place xs)) in
    let rest = length-drop place xs in
    let less = length-drop (length text) (drop place xs) in
    let nothing : drop (length (put_over place text xs)) xs ≡ [] =
    drop_all (length (put_over place text xs)) xs (omega arith) in
    ap (λ (back : List ℕ). take len (put_over place text xs ++ back)) nothing
    ∙ ap (take len) (append-nil (put_over place text xs)) ∙ ap (λ k. take k (put_over place text xs)) (sym whole)

left_by : (ws : List ℕ) (n r f : ℕ) (text xs : List ℕ) (fits : Bool) → length text == get_or ws f 0 ≡ fits → r < n
    → f < length ws → length xs ≡ n * size_of ws →
    rows_in ws n (put_within (place_of_field ws r f) text xs)
    ≡ cond fits (with_text (rows_in ws n xs) r f text)
    (rows_in ws (length (rows_in ws n xs)) (put_within (place_of_field ws r f) text (rows_text (rows_in ws n xs))))
left_by ws n r f text xs true fits row field whole =
    let same : length text ≡ get_or ws f 0 = eqb-true (length text) (get_or ws f 0) fits in
    let within = field_within ws n r f row field in
    let front = length-take-le (place_of_field ws r f) xs (omega arith) in
    let behind = length-append text (drop (length text) (drop (place_of_field ws r f) xs)) in
    let all = length-append (take (place_of_field ws r f) xs)
    (text ++ drop (length text) (drop (place_of_field ws r f) xs)) in
    let rest = length-drop (place_of_field ws r f) xs in
    let less = length-drop (length text) (drop (place_of_field ws r f) xs) in
    ap (rows_in ws n) (take_all (length xs) (put_over (place_of_field ws r f) text xs) (omega arith))
    ∙ rows_put ws n r f text xs row field same (omega arith)
left_by ws n r f text xs false other row field whole =
    let within = field_within ws n r f row field in
    let place : place_of_field ws r f ≤ length xs = omega arith in
    let alike = alike_put (size_of ws) (place_of_field ws r f) text xs (rows_text (rows_in ws n xs)) place
    (alike_text ws n xs whole) in
    let long = length-put (place_of_field ws r f) text xs place in
    alike_rows ws n (put_within (place_of_field ws r f) text xs)
    (put_within (place_of_field ws r f) text (rows_text (rows_in ws n xs))) alike (omega arith)
    ∙ ap (λ k. rows_in ws k (put_within (place_of_field ws r f) text (rows_text (rows_in ws n xs))))
    (sym (length-rows_in ws n xs))

pub left_is : (ws : List ℕ) (n r f : ℕ) (text xs : List ℕ) → r < n → f < length ws → length xs ≡ n * size_of ws →
    rows_in ws n (put_within (place_of_field ws r f) text xs) ≡ rows_left ws (rows_in ws n xs) r f text
unfolding rows_left
left_is ws n r f text xs row field whole = left_by ws n r f text xs (length text == get_or ws f 0) refl row field whole

-- ---- what the calls owe

pub field_below : (s : StructureState) (f : ℕ) → f < length s.fields → f < length (row_widths s)
field_below s f below =
    let same : length (row_widths s) ≡ length s.fields = length-map s.fields (λ f. f.width) in omega arith

pub span_within : (s : StructureState) (fields : List Field) (size n r f start width : ℕ) → fields ≡ s.fields
    → start ≡ place_of_field (row_widths s) r f → width ≡ get_or (widths_of fields) f 0 →
    size ≡ size_of (row_widths s) → r < n → f < length s.fields → start + width ≤ n * size
span_within s fields size n r f start width same at wide right row field =
    let within = field_within (row_widths s) n r f row (field_below s f field) in
    let b : width ≡ get_or (row_widths s) f 0 = wide ∙ ap (λ (fs : List Field). get_or (widths_of fs) f 0) same in
    let c : n * size ≡ n * size_of (row_widths s) = ap (λ k. n * k) right in
    omega (arith, at)

pub mark_read : (s : StructureState) (size n r place b : ℕ) (xs : List ℕ) → IsKept s size n xs → r < n
    → place ≡ r * size → place + size ≤ n * size → b ≡ get_or xs place b
    → b == 42 ≡ is_marked_at (rows_in (row_widths s) n xs) r
mark_read s size n r place b xs kept row at within read =
    let some = (small_size s size kept.good kept.right_size).0 in
    let byte : b ≡ get_or xs place 0 = get_or_read xs place b (omega (arith, kept.whole)) read 0 in
    let here : place ≡ r * size_of (row_widths s) = at ∙ ap (λ k. r * k) kept.right_size in
    ap (λ (x : ℕ). x == 42) (byte ∙ ap (λ k. get_or xs k 0) here) ∙ sym (mark_is (row_widths s) n r xs row)

pub marked_state : (t : TableState) (s : StructureState) (size n r place spare byte : ℕ) (marked : Bool) (xs : List ℕ)
    → IsKept s size n xs → r < n → place ≡ r * size → byte ≡ mark_byte marked →
    record { structure = s; rows = rows_in (row_widths s) n xs; spare = spare } ≡ t →
    record { structure = s; rows = rows_in (row_widths s) n (set xs place byte); spare = spare }
    ≡ record t { rows = with_mark t.rows r marked }
marked_state t s size n r place spare byte marked xs kept row at is view =
    let made : List Row → TableState = λ rows. record { structure = s; rows = rows; spare = spare } in
    let whole = enough s size n xs kept in
    let here : place ≡ r * size_of (row_widths s) = at ∙ ap (λ k. r * k) kept.right_size in
    ap (λ k. made (rows_in (row_widths s) n (set xs k byte))) here ∙ ap
    (λ b. made (rows_in (row_widths s) n (set xs (r * size_of (row_widths s)) b))) is
    ∙ ap made (rows_marked (row_widths s) n r marked xs row (omega arith))
    ∙ ap (λ (u : TableState). record u { rows = with_mark u.rows r marked }) view

abbrev pub state : StructureState → List Row → ℕ → TableState
state s rows spare = record { structure = s; rows = rows; spare = spare }

pub left_state : (t : TableState) (s : StructureState) (size n r f start len spare : ℕ) (text xs : List ℕ)
    → IsKept s size n xs → r < n → f < length s.fields → start ≡ place_of_field (row_widths s) r f → length xs ≡ len →
    record { structure = s; rows = rows_in (row_widths s) n xs; spare = spare } ≡ t →
    state s (rows_in (row_widths s) n (take len (put_over start text xs ++ drop (length (put_over start text xs)) xs)))
    spare
    ≡ state t.structure (rows_left (row_widths t.structure) t.rows r f text) t.spare
left_state t s size n r f start len spare text xs kept row field at whole view =
    let made : List Row → TableState = λ rows. record { structure = s; rows = rows; spare = spare } in
    let long = enough s size n xs kept in
    let within = field_within (row_widths s) n r f row (field_below s f field) in
    ap (λ (items : List ℕ). made (rows_in (row_widths s) n items)) (left_items start len text xs whole (omega arith))
    ∙ ap (λ k. made (rows_in (row_widths s) n (put_within k text xs))) at
    ∙ ap made (left_is (row_widths s) n r f text xs row (field_below s f field) long)
    ∙ ap (λ (u : TableState). record {
      structure = u.structure;
      rows = rows_left (row_widths u.structure) u.rows r f
          text;
      spare = u.spare;
    }) view

pub left_length : (start len : ℕ) (text xs : List ℕ) → length xs ≡ len → start ≤ len
    → length (take len (put_over start text xs ++ drop (length (put_over start text xs)) xs)) ≡ length xs
left_length start len text xs whole within =
    ap length (left_items start len text xs whole (omega arith)) ∙ length-put start text xs (omega arith)
