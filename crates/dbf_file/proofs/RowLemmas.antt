-- Rows cut out of bytes.
use Rattle.std.proofs.Common.{◌≡◌, ◌==◌, ℕ, zero, suc, ◌+◌, ◌*◌, ◌<◌, ◌≤◌, List, [], ◌∷◌, ◌++◌, length, get_or, take}
use Rattle.std.proofs.Common.{drop, set, refl, sym, ap, ◌∙◌, arith, length-drop}
use Rattle.std.proofs.lemmas.List.{take-take, drop-take, drop-drop, take_at, drop_at, get_or-drop, get_or-take}
use Rattle.dbf_file.specs.Fields.{total, size_of}
use Rattle.dbf_file.specs.Rows.{Row, texts_cut, row_in, rows_in, row_at, is_marked_at, text_at}
use Rattle.dbf_file.specs.Lending.{put_over, place_of_field}
use Rattle.dbf_file.proofs.PlaceLemmas.{take-put, drop-put, total_before}

-- ---- what is read

pub texts_at : (ws bytes : List ℕ) (f : ℕ) → f < length ws → get_or (texts_cut ws bytes) f []
    ≡ take (get_or ws f 0) (drop (total (take f ws)) bytes)
unfolding texts_cut
texts_at [] bytes f within = absurd (omega arith)
texts_at (w ∷ ws) bytes zero within = refl
texts_at (w ∷ ws) bytes (suc f) within =
    texts_at ws (drop w bytes) f (omega arith) ∙ ap (take (get_or ws f 0)) (drop-drop (total (take f ws)) w bytes)

pub length-rows_in : (ws : List ℕ) (n : ℕ) (bytes : List ℕ) → length (rows_in ws n bytes) ≡ n
unfolding rows_in
length-rows_in ws zero bytes = refl
length-rows_in ws (suc n) bytes = ap suc (length-rows_in ws n (drop (size_of ws) bytes))

pub row_at_is : (ws : List ℕ) (n r : ℕ) (bytes : List ℕ) → r < n → row_at (rows_in ws n bytes) r
    ≡ row_in ws (drop (r * size_of ws) bytes)
unfolding rows_in
row_at_is ws zero r bytes within = absurd (omega arith)
row_at_is ws (suc n) zero bytes within =
    let none : 0 * size_of ws ≡ 0 = omega arith in ap (λ k. row_in ws (drop k bytes)) (sym none)
row_at_is ws (suc n) (suc r) bytes within =
    let next : size_of ws + r * size_of ws ≡ suc r * size_of ws = omega arith in
    row_at_is ws n r (drop (size_of ws) bytes) (omega arith) ∙ ap (row_in ws)
    (drop-drop (r * size_of ws) (size_of ws) bytes ∙ ap (λ k. drop k bytes) next)

pub texts_of_row : (ws bytes : List ℕ) → (row_in ws bytes).texts ≡ texts_cut ws (drop 1 bytes)
unfolding row_in
texts_of_row ws bytes = refl

pub mark_of_row : (ws bytes : List ℕ) → (row_in ws bytes).marked ≡ (get_or bytes 0 0 == 42)
unfolding row_in
mark_of_row ws bytes = refl

pub text_is : (ws : List ℕ) (n r f : ℕ) (bytes : List ℕ) → r < n → f < length ws
    → text_at (rows_in ws n bytes) r f ≡ take (get_or ws f 0) (drop (place_of_field ws r f) bytes)
text_is ws n r f bytes row field =
    ap (λ (one : Row). get_or one.texts f []) (row_at_is ws n r bytes row)
    ∙ ap (λ (texts : List (List ℕ)). get_or texts f []) (texts_of_row ws (drop (r * size_of ws) bytes))
    ∙ texts_at ws (drop 1 (drop (r * size_of ws) bytes)) f field
    ∙ ap (take (get_or ws f 0)) (ap (drop (total (take f ws))) (drop-drop 1 (r * size_of ws) bytes)
    ∙ drop-drop (total (take f ws)) (r * size_of ws + 1) bytes)

pub mark_is : (ws : List ℕ) (n r : ℕ) (bytes : List ℕ) → r < n → is_marked_at (rows_in ws n bytes) r
    ≡ (get_or bytes (r * size_of ws) 0 == 42)
mark_is ws n r bytes row =
    let here : r * size_of ws + 0 ≡ r * size_of ws = omega arith in
    ap (λ (one : Row). one.marked) (row_at_is ws n r bytes row) ∙ mark_of_row ws (drop (r * size_of ws) bytes)
    ∙ ap (λ (b : ℕ). b == 42) (get_or-drop (r * size_of ws) bytes 0 0 ∙ ap (λ k. get_or bytes k 0) here)

-- ---- a row lies in its first bytes

pub texts_of_front : (ws bytes : List ℕ) → texts_cut ws (take (total ws) bytes) ≡ texts_cut ws bytes
unfolding texts_cut
texts_of_front [] bytes = refl
texts_of_front (w ∷ ws) bytes =
    let first : take w (take (w + total ws) bytes) ≡ take w bytes = take-take w (w + total ws) bytes (omega arith) in
    ap (λ (text : List ℕ). text ∷ texts_cut ws (drop w (take (w + total ws) bytes))) first
    ∙ ap (λ (rest : List ℕ). take w bytes ∷ texts_cut ws rest) (drop-take w (total ws) bytes)
    ∙ ap (λ (texts : List (List ℕ)). take w bytes ∷ texts) (texts_of_front ws (drop w bytes))

pub row_of_front : (ws bytes : List ℕ) → row_in ws (take (size_of ws) bytes) ≡ row_in ws bytes
unfolding row_in
row_of_front ws bytes =
    let mark : get_or (take (size_of ws) bytes) 0 0 ≡ get_or bytes 0 0 =
    get_or-take (size_of ws) bytes 0 0 (omega arith) in
    ap (λ (b : ℕ). record { marked = b == 42; texts = texts_cut ws (drop 1 (take (size_of ws) bytes)) }) mark
    ∙ ap (λ (texts : List (List ℕ)). record { marked = get_or bytes 0 0 == 42; texts = texts })
    (ap (texts_cut ws) (drop-take 1 (total ws) bytes) ∙ texts_of_front ws (drop 1 bytes))

-- two byte lists with the same front have the same row
pub row_same : (ws xs ys : List ℕ) → take (size_of ws) xs ≡ take (size_of ws) ys → row_in ws xs ≡ row_in ws ys
row_same ws xs ys e = sym (row_of_front ws xs) ∙ ap (row_in ws) e ∙ row_of_front ws ys

-- ---- a text put into a row

pub texts_put : (ws : List ℕ) (f : ℕ) (text bytes : List ℕ) → f < length ws → length text ≡ get_or ws f 0
    → total ws ≤ length bytes → texts_cut ws (put_over (total (take f ws)) text bytes) ≡ set (texts_cut ws bytes) f text
unfolding texts_cut
texts_put [] f text bytes field fits within = absurd (omega arith)
texts_put (w ∷ ws) zero text bytes field fits within =
    let first : take w (text ++ drop (length text) bytes) ≡ text = take_at text _ w fits in
    let rest : drop w (text ++ drop (length text) bytes) ≡ drop w bytes =
    drop_at text _ w fits ∙ ap (λ k. drop k bytes) fits in
    ap (λ (one : List ℕ). one ∷ texts_cut ws (drop w (text ++ drop (length text) bytes))) first
    ∙ ap (λ (others : List ℕ). text ∷ texts_cut ws others) rest
texts_put (w ∷ ws) (suc f) text bytes field fits within =
    let before = total_before f ws (omega arith) in
    let less = length-drop w bytes in
    ap (λ (one : List ℕ). one ∷ texts_cut ws (drop w (put_over (w + total (take f ws)) text bytes)))
    (take-put w (w + total (take f ws)) text bytes (omega arith) (omega arith))
    ∙ ap (λ (others : List ℕ). take w bytes ∷ texts_cut ws others)
    (drop-put w (total (take f ws)) text bytes (omega arith))
    ∙ ap (λ (texts : List (List ℕ)). take w bytes ∷ texts)
    (texts_put ws f text (drop w bytes) (omega arith) fits (omega arith))

-- ---- rows lie in their bytes

pub rows_of_front : (ws : List ℕ) (n : ℕ) (bytes : List ℕ) → rows_in ws n (take (n * size_of ws) bytes)
    ≡ rows_in ws n bytes
unfolding rows_in
rows_of_front ws zero bytes = refl
rows_of_front ws (suc n) bytes =
    let next : suc n * size_of ws ≡ size_of ws + n * size_of ws = omega arith in
    let front : List ℕ = take (size_of ws + n * size_of ws) bytes in
    ap (λ k. rows_in ws (suc n) (take k bytes)) next
    ∙ ap (λ (one : Row). one ∷ rows_in ws n (drop (size_of ws) front))
    (row_same ws front bytes (take-take (size_of ws) (size_of ws + n * size_of ws) bytes (omega arith)))
    ∙ ap (λ (rest : List ℕ). row_in ws bytes ∷ rows_in ws n rest) (drop-take (size_of ws) (n * size_of ws) bytes)
    ∙ ap (λ (rows : List Row). row_in ws bytes ∷ rows) (rows_of_front ws n (drop (size_of ws) bytes))
