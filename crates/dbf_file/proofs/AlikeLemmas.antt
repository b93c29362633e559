-- Bytes with the same rows: they differ at most in marks that aren't asterisks.
use Rattle.std.proofs.Common.{◌≡◌, ◌==◌, ℕ, zero, suc, ◌+◌, ◌*◌, ◌-◌, ◌%◌, ◌<◌, ◌≤◌, List, ◌∷◌, ◌++◌, length, get_or}
use Rattle.std.proofs.Common.{take, drop, Bool, ◌⊎◌, inl, inr, ⊎_elim, refl, sym, ap, ◌∙◌, arith, length-append}
use Rattle.std.proofs.Common.{length-drop, append_assoc}
use Rattle.std.proofs.Math.Nat.{mod-eq_of_lt, add-mod_left}
use Rattle.std.proofs.lemmas.Bool.{cases_lt}
use Rattle.std.proofs.lemmas.List.{length-take-le, get_or-take, get_or-drop, get_or_past, get_or_append_left}
use Rattle.std.proofs.lemmas.List.{get_or-append_right, ext_get_or, drop-drop}
use Rattle.std.proofs.lemmas.List.Concat.{flat_map-cons}
use Rattle.dbf_file.specs.Fields.{total, size_of}
use Rattle.dbf_file.specs.Rows.{Row, mark_byte, row_text, rows_text, texts_cut, row_in, rows_in}
use Rattle.dbf_file.specs.Lending.{put_over, put_within}
use Rattle.dbf_file.proofs.RowLemmas.{texts_of_front}
use Rattle.dbf_file.proofs.TextRowLemmas.{texts_back, marked_again, length-row_text, row_has_widths}

-- at each place the same byte, or a mark that says the same
abbrev pub AlikeAt : ℕ → List ℕ → List ℕ → ℕ → Type 0
AlikeAt size xs ys i = (get_or xs i 0 ≡ get_or ys i 0) ⊎ ((i % size ≡ 0) × (get_or xs i 0 == 42 ≡ get_or ys i 0 == 42))

pub record Alike (size : ℕ) (xs ys : List ℕ) : Type 0 where
  pub same_length : length xs ≡ length ys
  pub each : (i : ℕ) → AlikeAt size xs ys i

pub alike_drop : (size : ℕ) (xs ys : List ℕ) → Alike size xs ys → Alike size (drop size xs) (drop size ys)
alike_drop size xs ys alike = record {
  same_length = length-drop size xs ∙ ap (λ n. n - size) alike.same_length ∙ sym (length-drop size ys);
  each = λ i.
      let left = get_or-drop size xs i 0 in
      let right = get_or-drop size ys i 0 in
      ⊎_elim (λ same. inl (left ∙ same ∙ sym right))
      (λ (place, mark). inr (
        sym (add-mod_left size i) ∙ place,
        ap (λ (b : ℕ). b == 42) left ∙ mark
            ∙ ap (λ (b : ℕ). b == 42) (sym right),
      ))
      (alike.each (size + i));
}

-- the first row of bytes that are alike
alike_row : (ws xs ys : List ℕ) → Alike (size_of ws) xs ys → size_of ws ≤ length xs → row_in ws xs ≡ row_in ws ys
unfolding row_in
alike_row ws xs ys alike within =
    let mark : get_or xs 0 0 == 42 ≡ get_or ys 0 0 == 42 =
    ⊎_elim (λ same. ap (λ (b : ℕ). b == 42) same) (λ (place, same). same) (alike.each 0) in
    let less = length-drop 1 xs in
    let less' = length-drop 1 ys in
    let left = length-take-le (total ws) (drop 1 xs) (omega arith) in
    let right = length-take-le (total ws) (drop 1 ys) (omega (arith, alike.same_length)) in
    let at : (i : ℕ) → i < length (take (total ws) (drop 1 xs)) → get_or (take (total ws) (drop 1 xs)) i 0
    ≡ get_or (take (total ws) (drop 1 ys)) i 0 =
    λ i below.
    let here : i < total ws = omega arith in
    let rest : (1 + i) % size_of ws ≡ 1 + i = mod-eq_of_lt (omega arith) in
    let same : get_or xs (1 + i) 0 ≡ get_or ys (1 + i) 0 =
    ⊎_elim (λ e. e) (λ (place, m). absurd (omega arith)) (alike.each (1 + i)) in
    get_or-take (total ws) (drop 1 xs) i 0 here ∙ get_or-drop 1 xs i 0 ∙ same ∙ sym (get_or-drop 1 ys i 0)
    ∙ sym (get_or-take (total ws) (drop 1 ys) i 0 here) in
    let texts : texts_cut ws (drop 1 xs) ≡ texts_cut ws (drop 1 ys) =
    sym (texts_of_front ws (drop 1 xs)) ∙ ap (texts_cut ws)
    (ext_get_or 0 (take (total ws) (drop 1 xs)) (take (total ws) (drop 1 ys)) (left ∙ sym right) at)
    ∙ texts_of_front ws (drop 1 ys) in
    ap (λ (m : Bool). record { marked = m; texts = texts_cut ws (drop 1 xs) }) mark
    ∙ ap (λ (all : List (List ℕ)). record { marked = get_or ys 0 0 == 42; texts = all }) texts

pub alike_rows : (ws : List ℕ) (n : ℕ) (xs ys : List ℕ) → Alike (size_of ws) xs ys → n * size_of ws ≤ length xs
    → rows_in ws n xs ≡ rows_in ws n ys
unfolding rows_in
alike_rows ws zero xs ys alike within = refl
alike_rows ws (suc n) xs ys alike within =
    let less = length-drop (size_of ws) xs in
    ap (λ (row : Row). row ∷ rows_in ws n (drop (size_of ws) xs)) (alike_row ws xs ys alike (omega arith))
    ∙ ap (λ (rows : List Row). row_in ws ys ∷ rows)
    (alike_rows ws n (drop (size_of ws) xs) (drop (size_of ws) ys) (alike_drop (size_of ws) xs ys alike)
    (omega arith))

-- ---- a text put over both

pub length-put : (place : ℕ) (text xs : List ℕ) → place ≤ length xs → length (put_within place text xs) ≡ length xs
length-put place text xs within =
    let front = length-take-le place xs within in
    let behind = length-append text (drop (length text) (drop place xs)) in
    let all = length-append (take place xs) (text ++ drop (length text) (drop place xs)) in
    let rest = length-drop place xs in
    let less = length-drop (length text) (drop place xs) in
    length-take-le (length xs) (put_over place text xs) (omega arith)

split_put : (place : ℕ) (text xs : List ℕ) → put_over place text xs
    ≡ (take place xs ++ text) ++ drop (place + length text) xs
split_put place text xs = sym (append_assoc (take place xs) text _)
    ∙ ap (λ (back : List ℕ). (take place xs ++ text) ++ back) (drop-drop (length text) place xs)

get_before : (place : ℕ) (text xs : List ℕ) (i : ℕ) → i < place → place ≤ length xs
    → get_or (put_over place text xs) i 0 ≡ get_or xs i 0
get_before place text xs i before within =
    let front = length-take-le place xs within in
    get_or_append_left (take place xs) _ 0 i (omega arith) ∙ get_or-take place xs i 0 before

get_in : (place : ℕ) (text xs : List ℕ) (i : ℕ) → place ≤ i → i < place + length text → place ≤ length xs
    → get_or (put_over place text xs) i 0 ≡ get_or text (i - place) 0
get_in place text xs i from below within =
    let front = length-take-le place xs within in
    get_or-append_right (take place xs) _ place i 0 front from ∙ get_or_append_left text _ 0 (i - place) (omega arith)

get_behind : (place : ℕ) (text xs : List ℕ) (i : ℕ) → place + length text ≤ i → place ≤ length xs
    → get_or (put_over place text xs) i 0 ≡ get_or xs i 0
get_behind place text xs i from within =
    let front = length-take-le place xs within in
    let whole = length-append (take place xs) text in
    let back : place + length text + (i - (place + length text)) ≡ i = omega arith in
    ap (λ (all : List ℕ). get_or all i 0) (split_put place text xs)
    ∙ get_or-append_right (take place xs ++ text) _ (place + length text) i 0 (omega arith) from
    ∙ get_or-drop (place + length text) xs (i - (place + length text)) 0 ∙ ap (λ k. get_or xs k 0) back

along : (size : ℕ) (xs ys vs ws : List ℕ) (i : ℕ) → get_or vs i 0 ≡ get_or xs i 0 → get_or ws i 0 ≡ get_or ys i 0
    → AlikeAt size xs ys i → AlikeAt size vs ws i
along size xs ys vs ws i left right alike =
    ⊎_elim (λ same. inl (left ∙ same ∙ sym right))
    (λ (place, mark). inr (place, ap (λ (b : ℕ). b == 42) left ∙ mark ∙ ap (λ (b : ℕ). b == 42) (sym right))) alike

put_alike : (size place : ℕ) (text xs ys : List ℕ) (i : ℕ) → place ≤ length xs → Alike size xs ys
    → AlikeAt size (put_over place text xs) (put_over place text ys) i
put_alike size place text xs ys i within alike =
    let within' : place ≤ length ys = omega (arith, alike.same_length) in
    ⊎_elim (λ before. along size xs ys _ _ i (get_before place text xs i before within)
    (get_before place text ys i before within') (alike.each i))
    (λ from. ⊎_elim
    (λ below. inl (get_in place text xs i from below within ∙ sym (get_in place text ys i from below within')))
    (λ behind. along size xs ys _ _ i (get_behind place text xs i behind within)
    (get_behind place text ys i behind within') (alike.each i))
    (cases_lt i (place + length text)))
    (cases_lt i place)

pub alike_put : (size place : ℕ) (text xs ys : List ℕ) → place ≤ length xs → Alike size xs ys
    → Alike size (put_within place text xs) (put_within place text ys)
alike_put size place text xs ys within alike =
    let within' : place ≤ length ys = omega (arith, alike.same_length) in
    let left = length-put place text xs within in
    let right = length-put place text ys within' in
    record {
      same_length = left ∙ alike.same_length ∙ sym right;
      each = λ i. ⊎_elim
          (λ below.
          let below' : i < length ys = omega (arith, alike.same_length) in
          along size (put_over place text xs) (put_over place text ys) _ _ i
          (get_or-take (length xs) (put_over place text xs) i 0 below)
          (get_or-take (length ys) (put_over place text ys) i 0 below')
          (put_alike size place text xs ys i within alike))
          (λ past. inl (get_or_past (put_within place text xs) i 0 (omega arith)
          ∙ sym (get_or_past (put_within place text ys) i 0 (omega (arith, alike.same_length)))))
          (cases_lt i (length xs));
    }

-- ---- the bytes of the rows

pub row_bytes : (ws xs : List ℕ) → row_text (row_in ws xs) ≡ mark_byte (get_or xs 0 0 == 42) ∷ take (total ws)
    (drop 1 xs)
unfolding row_text row_in
row_bytes ws xs = ap (λ (rest : List ℕ). mark_byte (get_or xs 0 0 == 42) ∷ rest) (texts_back ws (drop 1 xs))

row_alike : (ws xs rest : List ℕ) (i : ℕ) → i < size_of ws → size_of ws ≤ length xs
    → AlikeAt (size_of ws) xs (row_text (row_in ws xs) ++ rest) i
row_alike ws xs rest zero below within =
    let some : 0 < size_of ws = omega arith in
    let mark : get_or (row_text (row_in ws xs) ++ rest) 0 0 ≡ mark_byte (get_or xs 0 0 == 42) =
    ap (λ (front : List ℕ). get_or (front ++ rest) 0 0) (row_bytes ws xs) in
    inr (mod-eq_of_lt some, sym (ap (λ (b : ℕ). b == 42) mark ∙ marked_again (get_or xs 0 0 == 42)))
row_alike ws xs rest (suc i) below within =
    let less = length-drop 1 xs in
    let long = length-take-le (total ws) (drop 1 xs) (omega arith) in
    let one : 1 + i ≡ suc i = omega arith in
    inl (sym (ap (λ (front : List ℕ). get_or (front ++ rest) (suc i) 0) (row_bytes ws xs)
    ∙ get_or_append_left (take (total ws) (drop 1 xs)) rest 0 i (omega arith)
    ∙ get_or-take (total ws) (drop 1 xs) i 0 (omega arith) ∙ get_or-drop 1 xs i 0 ∙ ap (λ k. get_or xs k 0) one))

text_alike : (ws : List ℕ) (n : ℕ) (xs : List ℕ) → n * size_of ws ≤ length xs → (i : ℕ) → i < n * size_of ws
    → AlikeAt (size_of ws) xs (rows_text (rows_in ws n xs)) i
unfolding rows_text rows_in
text_alike ws zero xs within i below = absurd (omega arith)
text_alike ws (suc n) xs within i below =
    let size = size_of ws in
    let rest : List ℕ = rows_text (rows_in ws n (drop size xs)) in
    let text : rows_text (rows_in ws (suc n) xs) ≡ row_text (row_in ws xs) ++ rest =
    flat_map-cons row_text (row_in ws xs) (rows_in ws n (drop size xs)) in
    let long = length-row_text ws (row_in ws xs) (row_has_widths ws xs (omega arith)) in
    let less = length-drop size xs in
    ⊎_elim
    (λ here. along size xs (row_text (row_in ws xs) ++ rest) _ _ i refl (ap (λ (all : List ℕ). get_or all i 0) text)
    (row_alike ws xs rest i here (omega arith)))
    (λ later.
    let k : ℕ = i - size in
    let back : size + k ≡ i = omega arith in
    let left : get_or (drop size xs) k 0 ≡ get_or xs i 0 = get_or-drop size xs k 0 ∙ ap (λ m. get_or xs m 0) back in
    let right : get_or rest k 0 ≡ get_or (rows_text (rows_in ws (suc n) xs)) i 0 =
    sym (ap (λ (all : List ℕ). get_or all i 0) text ∙ get_or-append_right (row_text (row_in ws xs)) rest size i 0 long
    later) in
    ⊎_elim (λ same. inl (sym left ∙ same ∙ right))
    (λ (place, mark). inr (
      ap (λ m. m % size) (sym back) ∙ add-mod_left size k
          ∙ place,
      ap (λ (b : ℕ). b == 42) (sym left) ∙ mark ∙ ap (λ (b : ℕ). b == 42) right,
    ))
    (text_alike ws n (drop size xs) (omega arith) k (omega arith)))
    (cases_lt i size)

pub length-rows_text : (ws : List ℕ) (n : ℕ) (xs : List ℕ) → n * size_of ws ≤ length xs
    → length (rows_text (rows_in ws n xs)) ≡ n * size_of ws
unfolding rows_text rows_in
length-rows_text ws zero xs within = omega arith
length-rows_text ws (suc n) xs within =
    let rest : List ℕ = rows_text (rows_in ws n (drop (size_of ws) xs)) in
    let less = length-drop (size_of ws) xs in
    let long = length-row_text ws (row_in ws xs) (row_has_widths ws xs (omega arith)) in
    let more = length-rows_text ws n (drop (size_of ws) xs) (omega arith) in
    let whole = length-append (row_text (row_in ws xs)) rest in
    ap length (flat_map-cons row_text (row_in ws xs) (rows_in ws n (drop (size_of ws) xs))) ∙ omega arith

pub alike_text : (ws : List ℕ) (n : ℕ) (xs : List ℕ) → length xs ≡ n * size_of ws
    → Alike (size_of ws) xs (rows_text (rows_in ws n xs))
alike_text ws n xs whole =
    let written = length-rows_text ws n xs (omega arith) in
    record {
      same_length = whole ∙ sym written;
      each = λ i. ⊎_elim (λ below. text_alike ws n xs (omega arith) i (omega arith))
          (λ past. inl (get_or_past xs i 0 past ∙ sym (get_or_past (rows_text (rows_in ws n xs)) i 0 (omega arith))))
          (cases_lt i (length xs));
    }
