-- Rows moved to the front.
use Rattle.std.proofs.Common.{◌≡◌, ◌==◌, ℕ, ◌+◌, ◌*◌, ◌-◌, ◌<◌, ◌≤◌, List, [], ◌∷◌, ◌++◌, length, get_or, take, drop}
use Rattle.std.proofs.Common.{Bool, true, false, not, cond, refl, sym, ap, ◌∙◌, subst, arith, length-drop}
use Rattle.std.specs.List.{copy_within}
use Rattle.std.proofs.Math.Seq.{paste}
use Rattle.std.proofs.lemmas.List.Elements.{filter-append}
use Rattle.std.proofs.lemmas.List.{length-take-le, take-append-drop, drop-take, drop-drop, drop_at, take-take, take_at}
use Rattle.std.proofs.lemmas.List.{append-nil, get_or-drop}
use Rattle.std.proofs.lemmas.List.Edits.{length-paste, take-paste, drop-paste}
use Rattle.std.proofs.Math.Nat.{mul-le-mul_right}
use Rattle.dbf_file.specs.Fields.{size_of}
use Rattle.dbf_file.specs.Rows.{Row, row_in, rows_in, unmarked}
use Rattle.dbf_file.proofs.RowLemmas.{row_same, rows_of_front, mark_of_row}
use Rattle.dbf_file.proofs.ChangeLemmas.{rows_more}

-- the last of so many rows
pub rows_last : (ws : List ℕ) (r : ℕ) (xs : List ℕ) → r * size_of ws ≤ length xs
    → rows_in ws (r + 1) xs ≡ rows_in ws r xs ++ row_in ws (drop (r * size_of ws) xs) ∷ []
rows_last ws r xs within =
    ap (rows_in ws (r + 1)) (sym (take-append-drop (r * size_of ws) xs))
    ∙ rows_more ws r (take (r * size_of ws) xs) (drop (r * size_of ws) xs) (length-take-le (r * size_of ws) xs within)
    ∙ ap (λ (rows : List Row). rows ++ row_in ws (drop (r * size_of ws) xs) ∷ []) (rows_of_front ws r xs)

-- bytes whose first rows are the unmarked ones of those seen so far; behind the rows seen they are as they were
pub record Packed (size : ℕ) (old now : List ℕ) (kept r : ℕ) : Type 0 where
  pub behind : kept ≤ r
  pub whole : length now ≡ length old
  pub rest : drop (r * size) now ≡ drop (r * size) old
  pub front : (ws : List ℕ) → size_of ws ≡ size → rows_in ws kept now ≡ unmarked (rows_in ws r old)

none_kept : (ws old : List ℕ) → rows_in ws 0 old ≡ unmarked (rows_in ws 0 old)
unfolding rows_in
none_kept ws old = refl

pub packed_none : (size : ℕ) (old : List ℕ) → Packed size old old 0 0
packed_none size old = record { behind = omega arith; whole = refl; rest = refl; front = λ ws right. none_kept ws old }

one_kept : (row : Row) (marked : Bool) → row.marked ≡ marked → unmarked (row ∷ []) ≡ cond marked [] (row ∷ [])
one_kept row true e = ap (λ (m : Bool). cond (not m) (row ∷ []) []) e
one_kept row false e = ap (λ (m : Bool). cond (not m) (row ∷ []) []) e

unmarked_last : (ws : List ℕ) (r : ℕ) (old : List ℕ) (marked : Bool) → r * size_of ws ≤ length old
    → get_or (drop (r * size_of ws) old) 0 0 == 42 ≡ marked →
    unmarked (rows_in ws (r + 1) old) ≡ unmarked (rows_in ws r old) ++ cond marked []
    (row_in ws (drop (r * size_of ws) old) ∷ [])
unmarked_last ws r old marked within mark =
    let row : Row = row_in ws (drop (r * size_of ws) old) in
    ap unmarked (rows_last ws r old within)
    ∙ filter-append (λ (one : Row). not one.marked) (rows_in ws r old) (row ∷ [])
    ∙ ap (λ (last : List Row). unmarked (rows_in ws r old) ++ last)
    (one_kept row marked (mark_of_row ws (drop (r * size_of ws) old) ∙ mark))

-- the mark of the next row
next_mark : (size r : ℕ) (old now : List ℕ) → drop (r * size) now ≡ drop (r * size) old
    → get_or (drop (r * size) old) 0 0 ≡ get_or now (r * size) 0
next_mark size r old now rest =
    let here : r * size + 0 ≡ r * size = omega arith in
    ap (λ (xs : List ℕ). get_or xs 0 0) (sym rest) ∙ get_or-drop (r * size) now 0 0 ∙ ap (λ k. get_or now k 0) here

next_rest : (size r : ℕ) (old now : List ℕ) → drop (r * size) now ≡ drop (r * size) old
    → drop ((r + 1) * size) now ≡ drop ((r + 1) * size) old
next_rest size r old now rest =
    let more : (r + 1) * size ≡ r * size + size = omega arith in
    ap (λ k. drop k now) more ∙ sym (drop-drop size (r * size) now) ∙ ap (drop size) rest
    ∙ drop-drop size (r * size) old ∙ ap (λ k. drop k old) (sym more)

pub packed_skip : (size n r kept : ℕ) (old now : List ℕ) → r < n → length old ≡ n * size
    → get_or now (r * size) 0 == 42 ≡ true → Packed size old now kept r → Packed size old now kept (r + 1)
packed_skip size n r kept old now row long marked packed =
    let rows : r * size ≤ n * size = mul-le-mul_right size (let below : r ≤ n = omega arith in below) in
    record {
      behind = omega (arith, packed.behind);
      whole = packed.whole;
      rest = next_rest size r old now packed.rest;
      front = λ ws right.
          let within : r * size_of ws ≤ length old = subst (λ k. r * k ≤ length old) (sym right) (omega arith) in
          let mark : get_or (drop (r * size_of ws) old) 0 0 == 42 ≡ true = ap (λ k. get_or (drop (r * k) old) 0 0 == 42)
          right ∙ ap (λ (b : ℕ). b == 42) (next_mark size r old now packed.rest) ∙ marked in
          packed.front ws right ∙ sym (unmarked_last ws r old true within mark
          ∙ append-nil (unmarked (rows_in ws r old)));
    }

-- ---- a record moved to the front

record Moved (size at from : ℕ) (now moved : List ℕ) : Type 0 where
  pub whole : length moved ≡ length now
  pub before : take at moved ≡ take at now
  pub piece : take size (drop at moved) ≡ take size (drop from now)
  pub after : drop (from + size) moved ≡ drop (from + size) now

moved_is : (size at from : ℕ) (now moved : List ℕ) → at ≤ from → from + size ≤ length now
    → moved ≡ copy_within now from (from + size) at → Moved size at from now moved
moved_is size at from now moved before within made =
    let count : from + size - from ≡ size = omega arith in
    let source : List ℕ = drop from now in
    let left = length-drop from now in
    let is : moved ≡ paste now at source size = made ∙ ap (λ k. paste now at source k) count in
    let fits : size ≤ length source = omega arith in
    let front : take (at + size) moved ≡ take at now ++ take size source =
    ap (take (at + size)) is ∙ take-paste now at source size (omega arith) fits in
    let begin : length (take at now) ≡ at = length-take-le at now (omega arith) in
    let past : from + size ≡ (at + size) + (from - at) = omega arith in
    record {
      whole = ap length is ∙ length-paste now at source size (omega arith) fits;
      before = sym (take-take at (at + size) moved (omega arith)) ∙ ap (take at) front
          ∙ take_at (take at now) (take size source) at begin;
      piece = sym (drop-take at size moved) ∙ ap (drop at) front ∙ drop_at (take at now) (take size source) at begin;
      after = ap (λ k. drop k moved) past ∙ sym (drop-drop (from - at) (at + size) moved)
          ∙ ap (drop (from - at)) (ap (drop (at + size)) is ∙ drop-paste now at source size (omega arith) fits)
          ∙ drop-drop (from - at) (at + size) now ∙ ap (λ k. drop k now) (sym past);
    }

pub packed_more : (size n r kept : ℕ) (old now moved : List ℕ) → r < n → length old ≡ n * size
    → get_or now (r * size) 0 == 42 ≡ false → moved ≡ copy_within now (r * size) (r * size + size) (kept * size)
    → Packed size old now kept r → Packed size old moved (kept + 1) (r + 1)
packed_more size n r kept old now moved row long live made packed =
    let upto : (r + 1) * size ≤ n * size = mul-le-mul_right size (let below : r + 1 ≤ n = omega arith in below) in
    let before : kept * size ≤ r * size = mul-le-mul_right size packed.behind in
    let next : (r + 1) * size ≡ r * size + size = omega arith in
    let is = moved_is size (kept * size) (r * size) now moved before (omega (arith, packed.whole)) made in
    record {
      behind = omega (arith, packed.behind);
      whole = is.whole ∙ packed.whole;
      rest = ap (λ k. drop k moved) next ∙ is.after ∙ ap (λ k. drop k now) (sym next)
          ∙ next_rest size r old now packed.rest;
      front = λ ws right.
          let sized : (k : ℕ) → k * size_of ws ≡ k * size = λ k. ap (λ m. k * m) right in
          let within : r * size_of ws ≤ length old = omega (arith, sized r) in
          let inside : kept * size_of ws ≤ length moved = omega (arith, sized kept, is.whole, packed.whole) in
          let mark : get_or (drop (r * size_of ws) old) 0 0 == 42 ≡ false = ap
          (λ k. get_or (drop (r * k) old) 0 0 == 42) right ∙ ap (λ (b : ℕ). b == 42)
          (next_mark size r old now packed.rest) ∙ live in
          let same_front : rows_in ws kept moved ≡ rows_in ws kept now =
          sym (rows_of_front ws kept moved) ∙ ap (λ k. rows_in ws kept (take k moved)) (sized kept)
          ∙ ap (rows_in ws kept) is.before ∙ ap (λ k. rows_in ws kept (take k now)) (sym (sized kept))
          ∙ rows_of_front ws kept now in
          let piece : take (size_of ws) (drop (kept * size_of ws) moved)
          ≡ take (size_of ws) (drop (r * size_of ws) old) =
          ap (λ k. take (size_of ws) (drop k moved)) (sized kept) ∙ ap (λ k. take k (drop (kept * size) moved)) right
          ∙ is.piece ∙ ap (take size) packed.rest
          ∙ ap (λ k. take k (drop (r * size) old)) (sym right) ∙ ap (λ k. take (size_of ws) (drop k old))
          (sym (sized r)) in
          rows_last ws kept moved inside
          ∙ ap (λ (rows : List Row). rows ++ row_in ws (drop (kept * size_of ws) moved) ∷ [])
          (same_front ∙ packed.front ws right)
          ∙ ap (λ (last : Row). unmarked (rows_in ws r old) ++ last ∷ [])
          (row_same ws (drop (kept * size_of ws) moved) (drop (r * size_of ws) old) piece)
          ∙ sym (unmarked_last ws r old false within mark);
    }
