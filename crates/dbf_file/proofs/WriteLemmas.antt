-- Files as they are written.
use Rattle.std.proofs.Common.{◌≡◌, ◌==◌, ℕ, suc, ◌+◌, ◌-◌, ◌<◌, ◌≤◌, List, [], ◌∷◌, ◌++◌, length, get_or, take, drop}
use Rattle.std.proofs.Common.{refl, sym, ap, ◌∙◌, arith, length-append, append_assoc, replicate}
use Rattle.std.proofs.lemmas.List.{drop-take, get_or-take, drop_at, append-nil}
use Rattle.dbf_file.proofs.RowLemmas.{length-rows_in}
use Rattle.std.proofs.lemmas.List.Concat.{flat_map-cons}
use Rattle.dbf_file.specs.declared.stamp.Stamp.{Stamp}
use Rattle.dbf_file.specs.declared.field.Field.{Field}
use Rattle.dbf_file.specs.Descriptors.{descriptor_text}
use Rattle.dbf_file.specs.Numbers.{number_at, number_text}
use Rattle.dbf_file.specs.Fields.{code_of, total, size_of}
use Rattle.dbf_file.specs.Rows.{Row, mark_byte, row_text, rows_text, row_in, rows_in}
use Rattle.dbf_file.specs.Tables.{StructureState, IsStructure, AreRows, DbfText, dbf_text, row_widths}
use Rattle.dbf_file.specs.Kept.{IsKept}
use Rattle.dbf_file.proofs.NumberLemmas.{length-number_text, number_at-text}
use Rattle.dbf_file.proofs.AlikeLemmas.{row_bytes}
use Rattle.dbf_file.proofs.FileLemmas.{good_fields}

-- ---- rows, one by one

row_step : (ws : List ℕ) (n : ℕ) (rest : List ℕ) → rows_text (rows_in ws (suc n) rest)
    ≡ row_text (row_in ws rest) ++ rows_text (rows_in ws n (drop (size_of ws) rest))
unfolding rows_text rows_in
row_step ws n rest = flat_map-cons row_text (row_in ws rest) (rows_in ws n (drop (size_of ws) rest))

no_step : (ws rest : List ℕ) → rows_text (rows_in ws 0 rest) ≡ []
unfolding rows_text rows_in
no_step ws rest = refl

-- the bytes of a record are those of its row
record_bytes : (ws rest piece : List ℕ) → piece ≡ take (size_of ws) rest
    → mark_byte (get_or piece 0 0 == 42) ∷ drop 1 piece ≡ row_text (row_in ws rest)
record_bytes ws rest piece same =
    let mark : get_or piece 0 0 ≡ get_or rest 0 0 =
    ap (λ (xs : List ℕ). get_or xs 0 0) same ∙ get_or-take (size_of ws) rest 0 0 (omega arith) in
    let texts : drop 1 piece ≡ take (total ws) (drop 1 rest) = ap (drop 1) same ∙ drop-take 1 (total ws) rest in
    ap (λ (b : ℕ). mark_byte (b == 42) ∷ drop 1 piece) mark
    ∙ ap (λ (xs : List ℕ). mark_byte (get_or rest 0 0 == 42) ∷ xs) texts ∙ sym (row_bytes ws rest)

pub rows_turn : (ws : List ℕ) (size count counter : ℕ) (out new piece rest : List ℕ) → size_of ws ≡ size
    → counter < count → piece ≡ take size rest → new ≡ out ++ mark_byte (get_or piece 0 0 == 42) ∷ drop 1 piece →
    new ++ rows_text (rows_in ws (count - (counter + 1)) (drop size rest))
    ≡ out ++ rows_text (rows_in ws (count - counter) rest)
rows_turn ws size count counter out new piece rest right below front made =
    let steps : count - counter ≡ suc (count - (counter + 1)) = omega arith in
    let left : List ℕ = rows_text (rows_in ws (count - (counter + 1)) (drop (size_of ws) rest)) in
    ap (λ k. new ++ rows_text (rows_in ws (count - (counter + 1)) (drop k rest))) (sym right)
    ∙ ap (λ (xs : List ℕ). xs ++ left)
    (made ∙ ap (λ (xs : List ℕ). out ++ xs)
    (record_bytes ws rest piece (front ∙ ap (λ k. take k rest) (sym right))))
    ∙ append_assoc out (row_text (row_in ws rest)) left
    ∙ ap (λ (xs : List ℕ). out ++ xs)
    (sym (ap (λ n. rows_text (rows_in ws n rest)) steps ∙ row_step ws (count - (counter + 1)) rest))

pub rows_done : (ws : List ℕ) (count counter : ℕ) (out rest : List ℕ) → count ≤ counter
    → out ++ rows_text (rows_in ws (count - counter) rest) ≡ out
rows_done ws count counter out rest above =
    let none : count - counter ≡ 0 = omega arith in
    ap (λ n. out ++ rows_text (rows_in ws n rest)) none ∙ ap (λ (xs : List ℕ). out ++ xs) (no_step ws rest)
    ∙ append-nil out

-- ---- the whole file

abbrev first_cells : Stamp → List ℕ
first_cells stamp = 3 ∷ stamp.year ∷ stamp.month ∷ stamp.day ∷ []

dbf_joined : (cells count header size head rows last : List ℕ)
    → (((((cells ++ count) ++ header) ++ size) ++ head) ++ rows) ++ last
    ≡ cells ++ (count ++ (header ++ (size ++ (head ++ (rows ++ last)))))
dbf_joined cells count header size head rows last = simp append_assoc

pub written_is : (s : StructureState) (size n header : ℕ) (xs : List ℕ) (stamp : Stamp)
    (made front with_head with_rows whole head : List ℕ) → IsKept s size n xs → head ≡ s.head
    → header ≡ 12 + length s.head → made ≡ [] →
    front ≡ (((made ++ first_cells stamp) ++ number_text 4 n) ++ number_text 2 header) ++ number_text 2 size →
    with_head ≡ front ++ head → with_rows ≡ with_head ++ rows_text (rows_in (row_widths s) n xs)
    → whole ≡ with_rows ++ 26 ∷ [] →
    whole ≡ dbf_text s (rows_in (row_widths s) n xs) stamp
unfolding dbf_text
written_is s size n header xs stamp made front with_head with_rows whole head kept is_head long none a b c d =
    let rows : List Row = rows_in (row_widths s) n xs in
    let count : n ≡ length rows = sym (length-rows_in (row_widths s) n xs) in
    let last : List ℕ = 26 ∷ [] in
    d ∙ ap (λ (o : List ℕ). o ++ last)
    (c ∙ ap (λ (o : List ℕ). o ++ rows_text rows)
    (b ∙ ap (λ (o : List ℕ). o ++ head) a ∙ ap
    (λ (h : List ℕ). ((((made ++ first_cells stamp) ++ number_text 4 n) ++ number_text 2 header) ++ number_text 2
    size) ++ h) is_head))
    ∙ ap (λ (o : List ℕ).
    ((((((o ++ first_cells stamp) ++ number_text 4 n) ++ number_text 2 header) ++ number_text 2 size) ++ s.head)
    ++ rows_text rows) ++ last) none
    ∙ dbf_joined (first_cells stamp) (number_text 4 n) (number_text 2 header) (number_text 2 size) s.head
    (rows_text rows) last
    ∙ ap (λ k. first_cells stamp
    ++ (number_text 4 k ++ (number_text 2 header ++ (number_text 2 size ++ (s.head ++ (rows_text rows ++ last))))))
    count
    ∙ ap (λ k. first_cells stamp
    ++ (number_text 4 (length rows)
    ++ (number_text 2 k ++ (number_text 2 size ++ (s.head ++ (rows_text rows ++ last)))))) long
    ∙ ap (λ k. first_cells stamp
    ++ (number_text 4 (length rows) ++ (number_text 2 (12 + length s.head)
    ++ (number_text 2 k ++ (s.head ++ (rows_text rows ++ last)))))) kept.right_size

-- what is written is the table's text
pub written_reads : (s : StructureState) (rows : List Row) (stamp : Stamp) → IsStructure s → AreRows s rows
    → DbfText s rows stamp (dbf_text s rows stamp)
unfolding dbf_text
written_reads s rows stamp good sound =
    let n : ℕ = length rows in
    let size : ℕ = size_of (row_widths s) in
    let h : ℕ = 12 + length s.head in
    let cells : List ℕ = first_cells stamp in
    let count : List ℕ = number_text 4 n in
    let header : List ℕ = number_text 2 h in
    let sizes : List ℕ = number_text 2 size in
    let rest : List ℕ = s.head ++ (rows_text rows ++ 26 ∷ []) in
    let a : length cells ≡ 4 = refl in
    let b : length (cells ++ count) ≡ 8 = length-append cells count ∙ ap (λ k. 4 + k) (length-number_text 4 n) in
    let c : length ((cells ++ count) ++ header) ≡ 10 = length-append (cells ++ count) header
    ∙ ap (λ k. k + length header) b ∙ ap (λ k. 8 + k) (length-number_text 2 h) in
    let d : length (((cells ++ count) ++ header) ++ sizes) ≡ 12 = length-append ((cells ++ count) ++ header) sizes
    ∙ ap (λ k. k + length sizes) c ∙ ap (λ k. 10 + k) (length-number_text 2 size) in
    let small = (good_fields s.fields good.fields).small in
    let at_header : cells ++ (count ++ (header ++ (sizes ++ rest))) ≡ (cells ++ count) ++ (header ++ (sizes ++ rest)) =
    sym (append_assoc cells count (header ++ (sizes ++ rest))) in
    let at_size : cells ++ (count ++ (header ++ (sizes ++ rest))) ≡ ((cells ++ count) ++ header) ++ (sizes ++ rest) =
    at_header ∙ sym (append_assoc (cells ++ count) header (sizes ++ rest)) in
    let at_text : cells ++ (count ++ (header ++ (sizes ++ rest))) ≡ (((cells ++ count) ++ header) ++ sizes) ++ rest =
    at_size ∙ sym (append_assoc ((cells ++ count) ++ header) sizes rest) in
    record {
      good = good;
      sound = sound;
      version = refl;
      year = refl;
      month = refl;
      day = refl;
      count = number_at-text 4 n 4 cells (header ++ (sizes ++ rest)) a sound.count;
      header = ap (number_at 2 8) at_header ∙ number_at-text 2 h 8 (cells ++ count) (sizes ++ rest) b good.short;
      size = ap (number_at 2 10) at_size ∙ number_at-text 2 size 10 ((cells ++ count) ++ header) rest c (omega arith);
      text = (26 ∷ [], ap (drop 12) at_text ∙ drop_at (((cells ++ count) ++ header) ++ sizes) rest 12 d);
    }

-- ---- a descriptor, piece by piece

descriptor_joined : (out name pad code four pair last : List ℕ) → (((((out ++ name) ++ pad) ++ code) ++ four) ++ pair)
    ++ last ≡ out ++ (((((name ++ pad) ++ code) ++ four) ++ pair) ++ last)
descriptor_joined out name pad code four pair last = simp append_assoc

pub put_joined : (out name pad four last : List ℕ) (code width decimals : ℕ) (o1 o2 o3 o4 o5 o6 o7 : List ℕ)
    → o1 ≡ out ++ name → o2 ≡ o1 ++ pad → o3 ≡ o2 ++ code ∷ [] → o4 ≡ o3 ++ four → o5 ≡ o4 ++ width ∷ []
    → o6 ≡ o5 ++ decimals ∷ [] → o7 ≡ o6 ++ last →
    o7 ≡ out ++ (((((name ++ pad) ++ code ∷ []) ++ four) ++ width ∷ decimals ∷ []) ++ last)
put_joined out name pad four last code width decimals o1 o2 o3 o4 o5 o6 o7 a b c d e f g =
    let pair : o6 ≡ o4 ++ width ∷ decimals ∷ [] =
    f ∙ ap (λ (o : List ℕ). o ++ decimals ∷ []) e ∙ append_assoc o4 (width ∷ []) (decimals ∷ []) in
    let four_is : o4 ≡ (((out ++ name) ++ pad) ++ code ∷ []) ++ four = d
    ∙ ap (λ (o : List ℕ). o ++ four) (c ∙ ap (λ (o : List ℕ). o ++ code ∷ [])
    (b ∙ ap (λ (o : List ℕ). o ++ pad) a)) in
    g ∙ ap (λ (o : List ℕ). o ++ last) (pair ∙ ap (λ (o : List ℕ). o ++ width ∷ decimals ∷ []) four_is)
    ∙ descriptor_joined out name pad (code ∷ []) four (width ∷ decimals ∷ []) last

pub put_described : (f : Field) (out o1 o2 o3 o4 o5 o6 o7 : List ℕ) → o1 ≡ out ++ f.name.items
    → o2 ≡ o1 ++ replicate (11 - length f.name.items) 0 → o3 ≡ o2 ++ code_of f.letter ∷ [] → o4 ≡ o3 ++ replicate 4 0 →
    o5 ≡ o4 ++ f.width ∷ [] → o6 ≡ o5 ++ f.decimals ∷ [] → o7 ≡ o6 ++ replicate 14 0 → o7 ≡ out ++ descriptor_text f
unfolding descriptor_text
put_described f out o1 o2 o3 o4 o5 o6 o7 a b c d e g h = put_joined out f.name.items
    (replicate (11 - length f.name.items) 0) (replicate 4 0) (replicate 14 0) (code_of f.letter) f.width f.decimals o1
    o2 o3 o4 o5 o6 o7 a b c d e g h
