-- A text shown in a row, byte by byte, and as a whole.
use Rattle.std.proofs.Common.{◌≡◌, ℕ, ◌+◌, ◌-◌, ◌<◌, ◌≤◌, List, [], ◌++◌, length, get_or, set, take, drop, map, min}
use Rattle.std.proofs.Common.{refl, sym, ◌∙◌, ap, arith, append_assoc, length-append, length-take, length-drop, inl}
use Rattle.std.proofs.Common.{inr}
use Rattle.std.proofs.lemmas.List.{length-map, drop_more, map_more, set_at, take_all, take_at, map-append}
use Rattle.std.proofs.lemmas.List.{take-append-drop, drop_all, append-nil}
use Rattle.std.proofs.lemmas.Bool.{cases_lt}

pub shown_more : (f : ℕ → ℕ) (row text : List ℕ) (c i b : ℕ) → i < length text → c + i < length row
    → b ≡ get_or text i 0 →
    set (take c row ++ map f (take i text) ++ drop (c + i) row) (c + i) (f b)
    ≡ take c row ++ map f (take (i + 1) text) ++ drop (c + (i + 1)) row
shown_more f row text c i b here inside byte =
    let len : length (take c row ++ map f (take i text)) ≡ c + i =
    simp (length-append, length-map, length-take) (omega arith) in
    let tail = drop_more row (c + i) 0 inside in
    let more = map_more f text i 0 here in
    let at = set_at (take c row ++ map f (take i text)) (get_or row (c + i) 0) (drop (c + i + 1) row) (f b) (c + i)
    len in
    let same : c + (i + 1) ≡ c + i + 1 = omega arith in
    rw (tail, at, more, same, byte) (simp append_assoc)

-- a text that fits in the row
shown_short : (f : ℕ → ℕ) (row text : List ℕ) (c n : ℕ) → length row ≡ 80 → length text + c ≤ 80 → n ≡ length text →
    take c row ++ map f (take n text) ++ drop (c + n) row ≡ take 80
    (take c row ++ map f text ++ drop (c + length text) row)
shown_short f row text c n wide fits count =
    let whole : take n text ≡ text = take_all n text (omega arith) in
    let len : length (take c row ++ map f text ++ drop (c + length text) row) ≤ 80 =
    simp (length-append, length-map, length-take, length-drop) (omega arith) in
    rw (whole, take_all 80 (take c row ++ map f text ++ drop (c + length text) row) len, count)

-- a text that is cut
shown_long : (f : ℕ → ℕ) (row text : List ℕ) (c n : ℕ) → length row ≡ 80 → c ≤ 80 → 80 ≤ length text + c → c + n ≡ 80 →
    take c row ++ map f (take n text) ++ drop (c + n) row ≡ take 80
    (take c row ++ map f text ++ drop (c + length text) row)
shown_long f row text c n wide inside long count =
    let none : drop (c + n) row ≡ [] = drop_all (c + n) row (omega arith) in
    let past : drop (c + length text) row ≡ [] = drop_all (c + length text) row (omega arith) in
    let front : length (take c row ++ map f (take n text)) ≡ 80 =
    simp (length-append, length-map, length-take) (omega arith) in
    let parts : map f text ≡ map f (take n text) ++ map f (drop n text) =
    ap (map f) (sym (take-append-drop n text)) ∙ map-append f (take n text) (drop n text) in
    let cut = take_at (take c row ++ map f (take n text)) (map f (drop n text)) 80 front in
    rw (
      none,
      past,
      parts,
      append-nil (take c row ++ map f (take n text)),
      append-nil
          (take c row ++ (map f (take n text) ++ map f (drop n text))),
      ← append_assoc,
      cut,
    )

pub shown_all : (f : ℕ → ℕ) (row text : List ℕ) (c n : ℕ) → length row ≡ 80 → c ≤ 80 → n ≡ min (length text) (80 - c) →
    take c row ++ map f (take n text) ++ drop (c + n) row ≡ take 80
    (take c row ++ map f text ++ drop (c + length text) row)
shown_all f row text c n wide inside count =
    elim (cases_lt (length text + c) 80) [
      | inl short ↦ shown_short f row text c n wide (omega arith) (omega arith)
      | inr long ↦ shown_long f row text c n wide inside long (omega arith)
    ]

-- the loop's step and its end, at the row as it is
pub shown_step : (f : ℕ → ℕ) (row text now : List ℕ) (c i v : ℕ) → now
    ≡ take c row ++ map f (take i text) ++ drop (c + i) row →
    v ≡ f (get_or text i 0) → i < length text → c + i < length row →
    set now (c + i) v ≡ take c row ++ map f (take (i + 1) text) ++ drop (c + (i + 1)) row
shown_step f row text now c i v is shows here inside =
    rw (is, shows) (shown_more f row text c i (get_or text i 0) here inside refl)

pub shown_end : (f : ℕ → ℕ) (row text now : List ℕ) (c n i : ℕ) → now
    ≡ take c row ++ map f (take i (take n text)) ++ drop (c + i) row →
    n ≡ min (length text) (80 - c) → i ≤ length (take n text) → length (take n text) ≤ i → length row ≡ 80 → c ≤ 80 →
    now ≡ take 80 (take c row ++ map f text ++ drop (c + length text) row)
shown_end f row text now c n i is count low high wide inside =
    let len : length (take n text) ≡ n = simp length-take (omega arith) in
    let all : take i (take n text) ≡ take n text = take_all i (take n text) high in
    let end : i ≡ n = omega arith in
    is ∙ rw (all, end) (shown_all f row text c n wide inside count)
