-- Bytes put over others, and parts of lists.
use Rattle.std.proofs.Common.{◌≡◌, ℕ, zero, suc, ◌+◌, ◌<◌, ◌≤◌, List, [], ◌∷◌, ◌++◌, length, get_or, take, drop}
use Rattle.std.proofs.Common.{refl, sym, ap, ◌∙◌, arith, length-append, append_assoc}
use Rattle.std.proofs.lemmas.List.{length-take, length-take-le, take-take, take-append-le, drop-append-le, drop-take}
use Rattle.std.proofs.lemmas.List.{drop-drop}
use Rattle.std.proofs.lemmas.Slice.{drop-append-drop}
use Rattle.dbf_file.specs.Fields.{total, places_from}
use Rattle.dbf_file.specs.Lending.{put_over}

-- the first k bytes are those before the place
pub take-put : (k place : ℕ) (text bytes : List ℕ) → k ≤ place → place ≤ length bytes
    → take k (put_over place text bytes) ≡ take k bytes
take-put k place text bytes before within =
    let front = length-take-le place bytes within in
    take-append-le k (take place bytes) _ (omega arith) ∙ take-take k place bytes before

-- behind bytes that stand before the place the rest is put over
pub drop-put : (k place : ℕ) (text bytes : List ℕ) → k ≤ length bytes
    → drop k (put_over (k + place) text bytes) ≡ put_over place text (drop k bytes)
drop-put k place text bytes within =
    let long = length-take (k + place) bytes in
    drop-append-le k (take (k + place) bytes) _ (omega arith)
    ∙ ap (λ (front : List ℕ). front ++ (text ++ drop (length text) (drop (k + place) bytes))) (drop-take k place bytes)
    ∙ ap (λ (back : List ℕ). take place (drop k bytes) ++ (text ++ drop (length text) back))
    (sym (drop-drop place k bytes))

-- behind the text all is as it was
pub drop-put_past : (k place : ℕ) (text bytes : List ℕ) → place + length text ≤ k → place ≤ length bytes
    → drop k (put_over place text bytes) ≡ drop k bytes
drop-put_past k place text bytes behind within =
    let front = length-take-le place bytes within in
    let whole = length-append (take place bytes) text in
    let same : put_over place text bytes ≡ (take place bytes ++ text) ++ drop (place + length text) bytes =
    sym (append_assoc (take place bytes) text _) ∙ ap (λ (back : List ℕ). (take place bytes ++ text) ++ back)
    (drop-drop (length text) place bytes) in
    ap (drop k) same ∙ drop-append-drop (place + length text) bytes (take place bytes ++ text) k behind (omega arith)

-- the width of a field and those before it
pub total_before : (f : ℕ) (widths : List ℕ) → f < length widths → total (take f widths) + get_or widths f 0
    ≤ total widths
total_before f [] within = absurd (omega arith)
total_before zero (w ∷ ws) within = omega arith
total_before (suc f) (w ∷ ws) within = let more = total_before f ws (omega arith) in omega arith

-- ---- where the fields of a record begin

pub length-places : (place : ℕ) (widths : List ℕ) → length (places_from place widths) ≡ length widths
length-places place [] = refl
length-places place (w ∷ ws) = ap suc (length-places (place + w) ws)

pub place_at : (f place d : ℕ) (widths : List ℕ) → f < length widths
    → get_or (places_from place widths) f d ≡ place + total (take f widths)
place_at f place d [] within = absurd (omega arith)
place_at zero place d (w ∷ ws) within = omega arith
place_at (suc f) place d (w ∷ ws) within =
    let rest = place_at f (place + w) d ws (omega arith) in omega (arith, rest)
