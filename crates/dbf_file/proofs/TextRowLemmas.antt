-- Rows written, and read again.
use Rattle.std.proofs.Common.{◌≡◌, ◌==◌, ℕ, zero, suc, ◌+◌, ◌*◌, ◌≤◌, List, [], ◌∷◌, ◌++◌, length, get_or, take, drop}
use Rattle.std.proofs.Common.{map, Bool, true, false, ◌&&◌, ◌||◌, cond, refl, sym, ap, ◌∙◌, arith, length-append}
use Rattle.std.proofs.Common.{length-drop, append_assoc, eqb-true}
use Rattle.std.specs.List.{concat, flat_map, AllByRecursion}
use Rattle.std.proofs.Math.Seq.{take-add}
use Rattle.std.proofs.lemmas.List.{take_at, drop_at, length-take-le}
use Rattle.std.proofs.lemmas.List.Concat.{flat_map-cons, concat_is}
use Rattle.std.proofs.lemmas.Bool.{and_parts, and_from}
use Rattle.dbf_file.specs.Fields.{total, size_of}
use Rattle.dbf_file.specs.Rows.{Row, HasWidths, mark_byte, row_text, rows_text, texts_cut, row_in, rows_in, is_mark}
use Rattle.dbf_file.specs.Rows.{are_marked}

-- ---- rows cut out of bytes are written as those

concat-cons : (x : List ℕ) (xs : List (List ℕ)) → concat (x ∷ xs) ≡ x ++ concat xs
concat-cons x xs = concat_is (x ∷ xs) ∙ flat_map-cons (λ y. y) x xs
    ∙ ap (λ (rest : List ℕ). x ++ rest) (sym (concat_is xs))

pub texts_back : (ws bytes : List ℕ) → concat (texts_cut ws bytes) ≡ take (total ws) bytes
unfolding texts_cut
texts_back [] bytes = refl
texts_back (w ∷ ws) bytes =
    concat-cons (take w bytes) (texts_cut ws (drop w bytes)) ∙ ap (λ (rest : List ℕ). take w bytes ++ rest)
    (texts_back ws (drop w bytes)) ∙ sym (take-add w (total ws) bytes)

mark_by : (b : ℕ) (x y : Bool) → b == 32 ≡ x → b == 42 ≡ y → x || y ≡ true → cond y 42 32 ≡ b
mark_by b x true d e marked = sym (eqb-true b 42 e)
mark_by b true false d e marked = sym (eqb-true b 32 d)
mark_by b false false d e marked = let clash : false ≡ true = marked in cc

mark_back : (b : ℕ) → is_mark b ≡ true → mark_byte (b == 42) ≡ b
mark_back b marked = mark_by b (b == 32) (b == 42) refl refl marked

row_back : (ws bytes : List ℕ) → is_mark (get_or bytes 0 0) ≡ true → size_of ws ≤ length bytes
    → row_text (row_in ws bytes) ≡ take (size_of ws) bytes
unfolding row_text row_in
row_back ws [] marked within = absurd (omega arith)
row_back ws (b ∷ bytes) marked within =
    let one : size_of ws ≡ suc (total ws) = omega arith in
    ap (λ (m : ℕ). m ∷ concat (texts_cut ws bytes)) (mark_back b marked)
    ∙ ap (λ (rest : List ℕ). b ∷ rest) (texts_back ws bytes) ∙ ap (λ n. take n (b ∷ bytes)) (sym one)

pub rows_back : (ws : List ℕ) (n : ℕ) (bytes : List ℕ) → are_marked (size_of ws) n bytes ≡ true
    → n * size_of ws ≤ length bytes → rows_text (rows_in ws n bytes) ≡ take (n * size_of ws) bytes
unfolding rows_text rows_in are_marked
rows_back ws zero bytes marks within = let none : 0 * size_of ws ≡ 0 = omega arith in ap (λ n. take n bytes) (sym none)
rows_back ws (suc n) bytes marks within =
    let next : suc n * size_of ws ≡ size_of ws + n * size_of ws = omega arith in
    let less = length-drop (size_of ws) bytes in
    flat_map-cons row_text (row_in ws bytes) (rows_in ws n (drop (size_of ws) bytes))
    ∙ ap (λ (front : List ℕ). front ++ flat_map row_text (rows_in ws n (drop (size_of ws) bytes)))
    (row_back ws bytes (and_parts _ _ marks).0 (omega arith))
    ∙ ap (λ (rest : List ℕ). take (size_of ws) bytes ++ rest)
    (rows_back ws n (drop (size_of ws) bytes) (and_parts _ _ marks).1 (omega arith))
    ∙ sym (take-add (size_of ws) (n * size_of ws) bytes) ∙ ap (λ k. take k bytes) (sym next)

-- ---- rows that are written are cut out again

texts_again : (ws : List ℕ) (texts : List (List ℕ)) (rest : List ℕ) → map length texts ≡ ws
    → texts_cut ws (concat texts ++ rest) ≡ texts
unfolding texts_cut
texts_again [] [] rest fit = refl
texts_again [] (t ∷ texts) rest fit = cc
texts_again (w ∷ ws) [] rest fit = cc
texts_again (w ∷ ws) (t ∷ texts) rest fit =
    let first : length t ≡ w = cc in
    let others : map length texts ≡ ws = cc in
    let split : concat (t ∷ texts) ++ rest ≡ t ++ (concat texts ++ rest) =
    ap (λ (front : List ℕ). front ++ rest) (concat-cons t texts) ∙ append_assoc t (concat texts) rest in
    ap (λ (bytes : List ℕ). take w bytes ∷ texts_cut ws (drop w bytes)) split
    ∙ ap (λ (one : List ℕ). one ∷ texts_cut ws (drop w (t ++ (concat texts ++ rest))))
    (take_at t (concat texts ++ rest) w first)
    ∙ ap (λ (bytes : List ℕ). t ∷ texts_cut ws bytes) (drop_at t (concat texts ++ rest) w first)
    ∙ ap (λ (all : List (List ℕ)). t ∷ all) (texts_again ws texts rest others)

length_texts : (ws : List ℕ) (texts : List (List ℕ)) → map length texts ≡ ws → length (concat texts) ≡ total ws
length_texts [] [] fit = refl
length_texts [] (t ∷ texts) fit = cc
length_texts (w ∷ ws) [] fit = cc
length_texts (w ∷ ws) (t ∷ texts) fit =
    let first : length t ≡ w = cc in
    let others : map length texts ≡ ws = cc in
    let more = length_texts ws texts others in
    ap length (concat-cons t texts) ∙ length-append t (concat texts) ∙ omega arith

pub marked_again : (marked : Bool) → mark_byte marked == 42 ≡ marked
marked_again true = refl
marked_again false = refl

is_mark_byte : (marked : Bool) → is_mark (mark_byte marked) ≡ true
is_mark_byte true = refl
is_mark_byte false = refl

row_again : (ws : List ℕ) (row : Row) (rest : List ℕ) → HasWidths ws row → row_in ws (row_text row ++ rest) ≡ row
unfolding row_in row_text
row_again ws row rest fits =
    ap (λ (m : Bool). record { marked = m; texts = texts_cut ws (concat row.texts ++ rest) }) (marked_again row.marked)
    ∙ ap (λ (texts : List (List ℕ)). record { marked = row.marked; texts = texts }) (texts_again ws row.texts rest fits)

pub length-row_text : (ws : List ℕ) (row : Row) → HasWidths ws row → length (row_text row) ≡ size_of ws
unfolding row_text
length-row_text ws row fits = let texts = length_texts ws row.texts fits in omega arith

first_mark : (row : Row) (rest : List ℕ) → is_mark (get_or (row_text row ++ rest) 0 0) ≡ true
unfolding row_text
first_mark row rest = is_mark_byte row.marked

-- rows in front of the rest
pub record AreBack (ws : List ℕ) (rows : List Row) (rest bytes : List ℕ) : Type 0 where
  pub same : rows_in ws (length rows) bytes ≡ rows
  pub marks : are_marked (size_of ws) (length rows) bytes ≡ true
  pub whole : length (rows_text rows) ≡ length rows * size_of ws

pub rows_again : (ws : List ℕ) (rows : List Row) (rest : List ℕ) → AllByRecursion (HasWidths ws) rows
    → AreBack ws rows rest (rows_text rows ++ rest)
unfolding rows_in rows_text are_marked
rows_again ws [] rest each =
    let none : 0 ≡ 0 * size_of ws = omega arith in record { same = refl; marks = refl; whole = none }
rows_again ws (row ∷ rows) rest each =
    let more = rows_again ws rows rest each.1 in
    let size = length-row_text ws row each.0 in
    let split : rows_text (row ∷ rows) ++ rest ≡ row_text row ++ (rows_text rows ++ rest) =
    ap (λ (front : List ℕ). front ++ rest) (flat_map-cons row_text row rows)
    ∙ append_assoc (row_text row) (rows_text rows) rest in
    let behind : drop (size_of ws) (row_text row ++ (rows_text rows ++ rest)) ≡ rows_text rows ++ rest =
    drop_at (row_text row) (rows_text rows ++ rest) (size_of ws) size in
    let longer = length-append (row_text row) (rows_text rows) in
    record {
      same =
          ap (λ (bytes : List ℕ). row_in ws bytes ∷ rows_in ws (length rows) (drop (size_of ws) bytes)) split
          ∙ ap (λ (bytes : List ℕ). row_in ws (row_text row ++ (rows_text rows ++ rest)) ∷ rows_in ws (length rows)
          bytes) behind
          ∙ ap (λ (all : List Row). row_in ws (row_text row ++ (rows_text rows ++ rest)) ∷ all) more.same
          ∙ ap (λ (one : Row). one ∷ rows) (row_again ws row (rows_text rows ++ rest) each.0);
      marks =
          ap (λ (bytes : List ℕ). is_mark (get_or bytes 0 0) && are_marked (size_of ws) (length rows)
          (drop (size_of ws) bytes)) split
          ∙ and_from _ _ (first_mark row (rows_text rows ++ rest))
          (ap (are_marked (size_of ws) (length rows)) behind ∙ more.marks);
      whole = ap length (flat_map-cons row_text row rows) ∙ longer ∙ ap (λ n. n + length (rows_text rows)) size
          ∙ omega (arith, more.whole);
    }

-- ---- rows that are cut out have the widths

texts_have_widths : (ws bytes : List ℕ) → total ws ≤ length bytes → map length (texts_cut ws bytes) ≡ ws
unfolding texts_cut
texts_have_widths [] bytes within = refl
texts_have_widths (w ∷ ws) bytes within =
    let less = length-drop w bytes in
    ap (λ n. n ∷ map length (texts_cut ws (drop w bytes))) (length-take-le w bytes (omega arith))
    ∙ ap (λ (ns : List ℕ). w ∷ ns) (texts_have_widths ws (drop w bytes) (omega arith))

pub row_has_widths : (ws bytes : List ℕ) → size_of ws ≤ length bytes → HasWidths ws (row_in ws bytes)
unfolding row_in
row_has_widths ws bytes within = let less = length-drop 1 bytes in texts_have_widths ws (drop 1 bytes) (omega arith)

pub rows_have_widths : (ws : List ℕ) (n : ℕ) (bytes : List ℕ) → n * size_of ws ≤ length bytes
    → AllByRecursion (HasWidths ws) (rows_in ws n bytes)
unfolding rows_in
rows_have_widths ws zero bytes within = tt
rows_have_widths ws (suc n) bytes within =
    let less = length-drop (size_of ws) bytes in
    (row_has_widths ws bytes (omega arith), rows_have_widths ws n (drop (size_of ws) bytes) (omega arith))
