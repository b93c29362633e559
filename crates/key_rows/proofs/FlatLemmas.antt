-- Pairs in a row of bytes, and what becomes of them when bytes are put in or taken out.
use Rattle.std.proofs.Common.{◌≡◌, true, false, cond, set, ℕ, zero, suc, ◌+◌, ◌*◌, ◌-◌, ◌^◌, ◌<◌, ◌≤◌, List, [], ◌∷◌}
use Rattle.std.proofs.Common.{◌++◌, length, get_or, take, drop, refl, sym, ap, subst, ◌∙◌, arith, length-drop}
use Rattle.std.proofs.Common.{length-append}
use Rattle.std.proofs.lemmas.List.{drop-drop, take_at, drop_at, length-take-le, take-append-le, drop-append-le}
use Rattle.std.proofs.lemmas.List.{take-append-drop, append-nil}
use Rattle.std.proofs.Math.Nat.{add-mul, one-mul, mul-le-mul_right}
use Rattle.std.specs.List.{insert, remove}
use Rattle.byteorder.specs.Numbers.{little_number-reads_back, little_from-append, length-bytes_low_first}
use Rattle.byteorder.specs.Endian.{little_number, little_bytes}
use Rattle.key_lists.specs.Pairs.{Pair, is_before}
use Rattle.key_lists.specs.Rising.{IsRising, place_of}
use Rattle.key_lists.proofs.Ordered.{Each-at}
use Rattle.key_lists.proofs.PairOrder.{is_before_strict}
use Rattle.key_rows.specs.Flat.{FlatView, pairs_in, HaveKeys}

-- ---- places

pub next_place : (k i : ℕ) → (k + 4) + i * (k + 4) ≡ suc i * (k + 4)
next_place k i = omega (arith, add-mul i 1 (k + 4), one-mul (k + 4))

pub place_within : (k i n : ℕ) (b : List ℕ) → length b ≡ n * (k + 4) → i < n → i * (k + 4) + (k + 4) ≤ length b
place_within k i n b e l =
    omega (arith, next_place k i, mul-le-mul_right (k + 4) (let h : suc i ≤ n = omega arith in h), e)

pub place_at_most : (k i n : ℕ) (b : List ℕ) → length b ≡ n * (k + 4) → i ≤ n → i * (k + 4) ≤ length b
place_at_most k i n b e l = omega (arith, mul-le-mul_right (k + 4) l, e)

-- ---- what stands there

pub length-pairs_in : (k n : ℕ) (b : List ℕ) → length (pairs_in k n b) ≡ n
unfolding pairs_in
length-pairs_in k zero b = refl
length-pairs_in k (suc n) b = ap suc (length-pairs_in k n (drop (k + 4) b))

-- the pairs of a view, and how many they are
pub pairs_of : (k n room : ℕ) (b : List ℕ) (v : FlatView)
    → ◌≡◌ {A = FlatView} (record { items = pairs_in k n b; room = room }) v → pairs_in k n b ≡ v.items
pairs_of k n room b v e = ap (λ (w : FlatView). w.items) e

pub count_of : (k n : ℕ) (b : List ℕ) (items : List Pair) → pairs_in k n b ≡ items → n ≡ length items
count_of k n b items e = sym (length-pairs_in k n b) ∙ ap (λ (m : List Pair). length m) e

pub pair_within : (k i n : ℕ) (b : List ℕ) (items : List Pair) → pairs_in k n b ≡ items → length b ≡ n * (k + 4)
    → i < length items → i * (k + 4) + (k + 4) ≤ length b
pair_within k i n b items e whole l = place_within k i n b whole (omega (arith, count_of k n b items e, l))

further : (k i : ℕ) (b : List ℕ) → drop (i * (k + 4)) (drop (k + 4) b) ≡ drop (suc i * (k + 4)) b
further k i b = drop-drop (i * (k + 4)) (k + 4) b ∙ ap (λ j. drop j b) (next_place k i)

pub key_at : (k n i : ℕ) (b : List ℕ) (d : Pair) → i < n → (get_or (pairs_in k n b) i d).0
    ≡ take k (drop (i * (k + 4)) b)
unfolding pairs_in
key_at k zero i b d l = absurd (omega arith)
key_at k (suc n) zero b d l = let none : 0 * (k + 4) ≡ 0 = omega arith in ap (λ j. take k (drop j b)) (sym none)
key_at k (suc n) (suc i) b d l = key_at k n i (drop (k + 4) b) d (omega arith) ∙ ap (take k) (further k i b)

number_from : (k n i : ℕ) (b : List ℕ) (d : Pair) → i < n → (get_or (pairs_in k n b) i d).1
    ≡ little_number 4 (drop k (drop (i * (k + 4)) b))
unfolding pairs_in
number_from k zero i b d l = absurd (omega arith)
number_from k (suc n) zero b d l =
    let none : 0 * (k + 4) ≡ 0 = omega arith in ap (λ j. little_number 4 (drop k (drop j b))) (sym none)
number_from k (suc n) (suc i) b d l =
    number_from k n i (drop (k + 4) b) d (omega arith) ∙ ap (λ r. little_number 4 (drop k r)) (further k i b)

pub number_at : (k n i : ℕ) (b : List ℕ) (d : Pair) → i < n → (get_or (pairs_in k n b) i d).1
    ≡ little_number 4 (drop (i * (k + 4) + k) b)
number_at k n i b d l = number_from k n i b d l ∙ ap (little_number 4) (drop-drop k (i * (k + 4)) b)

-- ---- rows side by side

pub pairs_split : (k m n : ℕ) (b : List ℕ) → pairs_in k (m + n) b
    ≡ pairs_in k m b ++ pairs_in k n (drop (m * (k + 4)) b)
unfolding pairs_in
pairs_split k zero n b = let e : 0 + n ≡ n = omega arith in let z : 0 * (k + 4)
    ≡ 0 = omega arith in ap (λ j. pairs_in k j b) e ∙ ap (λ j. pairs_in k n (drop j b)) (sym z)
pairs_split k (suc m) n b =
    let e : suc m + n ≡ suc (m + n) = omega arith in
    ap (λ j. pairs_in k j b) e
    ∙ ap (λ (r : List Pair). (take k b, little_number 4 (drop k b)) ∷ r)
    (pairs_split k m n (drop (k + 4) b) ∙ ap (λ j. pairs_in k m (drop (k + 4) b) ++ pairs_in k n j) (further k m b))

same_pairs : (x y : List ℕ) (m n : ℕ) (r s : List Pair) → x ≡ y → m ≡ n → r ≡ s
    → ◌≡◌ {A = List Pair} ((x, m) ∷ r) ((y, n) ∷ s)
same_pairs x y m n r s e f g = rw (e, f, g) refl

pub pairs_front : (k n : ℕ) (a b : List ℕ) → n * (k + 4) ≤ length a → pairs_in k n (a ++ b) ≡ pairs_in k n a
unfolding pairs_in
pairs_front k zero a b l = refl
pairs_front k (suc n) a b l =
    let long : (k + 4) + n * (k + 4) ≤ length a = omega (arith, l, next_place k n) in
    let one : k + 4 ≤ length a = omega arith in
    let key : take k (a ++ b) ≡ take k a = take-append-le k a b (omega arith) in
    let behind : drop k (a ++ b) ≡ drop k a ++ b = drop-append-le k a b (omega arith) in
    let four : 4 ≤ length (drop k a) = omega (arith, length-drop k a) in
    let number : little_number 4 (drop k (a ++ b)) ≡ little_number 4 (drop k a) =
    ap (little_number 4) behind ∙ little_from-append 4 (drop k a) b four in
    let rest : drop (k + 4) (a ++ b) ≡ drop (k + 4) a ++ b = drop-append-le (k + 4) a b one in
    let left : n * (k + 4) ≤ length (drop (k + 4) a) = omega (arith, length-drop (k + 4) a) in
    same_pairs _ _ _ _ _ _ key number (ap (pairs_in k n) rest ∙ pairs_front k n (drop (k + 4) a) b left)

pub pairs_one : (k n x : ℕ) (key b : List ℕ) → length key ≡ k → x < 2 ^ 32
    → pairs_in k (suc n) (key ++ (little_bytes 4 x ++ b)) ≡ (key, x) ∷ pairs_in k n b
unfolding pairs_in
pairs_one k n x key b e fits =
    let at : drop k (key ++ (little_bytes 4 x ++ b)) ≡ little_bytes 4 x ++ b =
    drop_at key (little_bytes 4 x ++ b) k e in
    let rest : drop (k + 4) (key ++ (little_bytes 4 x ++ b)) ≡ b = sym (drop-drop 4 k (key ++ (little_bytes 4 x ++ b)))
    ∙ ap (drop 4) at ∙ drop_at (little_bytes 4 x) b 4 (length-bytes_low_first 0 4 x) in
    same_pairs _ _ _ _ _ _ (take_at key (little_bytes 4 x ++ b) k e)
    (ap (little_number 4) at ∙ little_number-reads_back 4 x b fits) (ap (pairs_in k n) rest)

-- the first m of them
pub pairs_before : (k m : ℕ) (b : List ℕ) → m * (k + 4) ≤ length b
    → pairs_in k m b ≡ pairs_in k m (take (m * (k + 4)) b)
pairs_before k m b l =
    ap (pairs_in k m) (sym (take-append-drop (m * (k + 4)) b)) ∙ pairs_front k m (take (m * (k + 4)) b)
    (drop (m * (k + 4)) b) (omega (arith, length-take-le (m * (k + 4)) b l))

pub take-pairs : (k m n : ℕ) (b : List ℕ) → take m (pairs_in k (m + n) b) ≡ pairs_in k m b
take-pairs k m n b = ap (take m) (pairs_split k m n b) ∙ take_at (pairs_in k m b) _ m (length-pairs_in k m b)

pub drop-pairs : (k m n : ℕ) (b : List ℕ) → drop m (pairs_in k (m + n) b) ≡ pairs_in k n (drop (m * (k + 4)) b)
drop-pairs k m n b = ap (drop m) (pairs_split k m n b) ∙ drop_at (pairs_in k m b) _ m (length-pairs_in k m b)

-- pairs of a whole row, and others behind them
pub pairs_joined : (k m n : ℕ) (a b : List ℕ) → length a ≡ m * (k + 4)
    → pairs_in k (m + n) (a ++ b) ≡ pairs_in k m a ++ pairs_in k n b
pairs_joined k m n a b e =
    pairs_split k m n (a ++ b) ∙ ap (λ (r : List Pair). r ++ pairs_in k n (drop (m * (k + 4)) (a ++ b)))
    (pairs_front k m a b (omega (arith, e))) ∙ ap (λ r. pairs_in k m a ++ pairs_in k n r)
    (drop_at a b (m * (k + 4)) e)

-- ---- changes

pub pairs_put : (k at n x : ℕ) (key b b2 : List ℕ) → length key ≡ k → x < 2 ^ 32 → length b ≡ n * (k + 4) → at ≤ n
    → b2 ≡ take (at * (k + 4)) b ++ (key ++ (little_bytes 4 x ++ drop (at * (k + 4)) b))
    → pairs_in k (n + 1) b2 ≡ insert (pairs_in k n b) at (key, x)
pairs_put k at n x key b b2 e fits whole l is =
    let within : at * (k + 4) ≤ length b = place_at_most k at n b whole l in
    let some : at + suc (n - at) ≡ n + 1 = omega arith in
    let all : n ≡ at + (n - at) = omega arith in
    let front : length (take (at * (k + 4)) b) ≡ at * (k + 4) = length-take-le (at * (k + 4)) b within in
    let before : pairs_in k at (take (at * (k + 4)) b) ≡ take at (pairs_in k n b) = sym (pairs_before k at b within)
    ∙ sym (take-pairs k at (n - at) b) ∙ ap (λ j. take at (pairs_in k j b)) (sym all) in
    let behind : pairs_in k (n - at) (drop (at * (k + 4)) b) ≡ drop at (pairs_in k n b) =
    sym (drop-pairs k at (n - at) b) ∙ ap (λ j. drop at (pairs_in k j b)) (sym all) in
    ap (λ j. pairs_in k j b2) (sym some) ∙ ap (pairs_in k (at + suc (n - at))) is
    ∙ pairs_joined k at (suc (n - at)) (take (at * (k + 4)) b) _ front
    ∙ ap (λ (r : List Pair). pairs_in k at (take (at * (k + 4)) b) ++ r)
    (pairs_one k (n - at) x key (drop (at * (k + 4)) b) e fits ∙ ap (λ (r : List Pair). (key, x) ∷ r) behind)
    ∙ ap (λ (r : List Pair). r ++ (key, x) ∷ drop at (pairs_in k n b)) before

pub length-put : (k at n x : ℕ) (key b b2 : List ℕ) → length key ≡ k → length b ≡ n * (k + 4) → at ≤ n
    → b2 ≡ take (at * (k + 4)) b ++ (key ++ (little_bytes 4 x ++ drop (at * (k + 4)) b)) → length b2 ≡ (n + 1) * (k + 4)
length-put k at n x key b b2 e whole l is =
    let start = at * (k + 4) in
    let within : start ≤ length b = place_at_most k at n b whole l in
    omega (
      arith,
      ap (λ (r : List ℕ). length r) is,
      length-append (take start b)
          (key ++ (little_bytes 4 x ++ drop start b)),
      length-append key (little_bytes 4 x ++ drop start b),
      length-append
          (little_bytes 4 x) (drop start b),
      length-bytes_low_first 0 4 x,
      length-take-le start b within,
      length-drop
          start b,
      next_place k n,
      e,
      whole,
    )

pub pairs_taken : (k at n : ℕ) (b b2 : List ℕ) → length b ≡ n * (k + 4) → at < n
    → b2 ≡ take (at * (k + 4)) b ++ drop (at * (k + 4) + (k + 4)) b → pairs_in k (n - 1) b2 ≡ remove (pairs_in k n b) at
pairs_taken k at n b b2 whole l is =
    let within : at * (k + 4) ≤ length b = place_at_most k at n b whole (omega arith) in
    let some : at + (n - suc at) ≡ n - 1 = omega arith in
    let all : n ≡ at + (n - at) = omega arith in
    let more : n ≡ suc at + (n - suc at) = omega arith in
    let step : at * (k + 4) + (k + 4) ≡ suc at * (k + 4) = omega (arith, next_place k at) in
    let front : length (take (at * (k + 4)) b) ≡ at * (k + 4) = length-take-le (at * (k + 4)) b within in
    let before : pairs_in k at (take (at * (k + 4)) b) ≡ take at (pairs_in k n b) = sym (pairs_before k at b within)
    ∙ sym (take-pairs k at (n - at) b) ∙ ap (λ j. take at (pairs_in k j b)) (sym all) in
    let behind : pairs_in k (n - suc at) (drop (at * (k + 4) + (k + 4)) b)
    ≡ drop (suc at) (pairs_in k n b) = ap (λ j. pairs_in k (n - suc at) (drop j b)) step
    ∙ sym (drop-pairs k (suc at) (n - suc at) b) ∙ ap (λ j. drop (suc at) (pairs_in k j b)) (sym more) in
    ap (λ j. pairs_in k j b2) (sym some) ∙ ap (pairs_in k (at + (n - suc at))) is
    ∙ pairs_joined k at (n - suc at) (take (at * (k + 4)) b) _ front
    ∙ ap (λ (r : List Pair). pairs_in k at (take (at * (k + 4)) b) ++ r) behind
    ∙ ap (λ (r : List Pair). r ++ drop (suc at) (pairs_in k n b)) before

pub length-taken : (k at n : ℕ) (b b2 : List ℕ) → length b ≡ n * (k + 4) → at < n
    → b2 ≡ take (at * (k + 4)) b ++ drop (at * (k + 4) + (k + 4)) b → length b2 ≡ (n - 1) * (k + 4)
length-taken k at n b b2 whole l is =
    let start = at * (k + 4) in
    let within : start + (k + 4) ≤ length b = place_within k at n b whole l in
    let less : suc (n - 1) ≡ n = omega arith in
    let all : (k + 4) + (n - 1) * (k + 4) ≡ n * (k + 4) = next_place k (n - 1) ∙ ap (λ j. j * (k + 4)) less in
    omega (
      arith,
      ap (λ (r : List ℕ). length r) is,
      length-append (take start b) (drop (start + (k + 4)) b),
      length-take-le start b (omega arith),
      length-drop (start + (k + 4)) b,
      all,
      whole,
    )

pub pairs_cut : (k kept n : ℕ) (b : List ℕ) → length b ≡ n * (k + 4) → kept ≤ n
    → pairs_in k kept (take (kept * (k + 4)) b) ≡ take kept (pairs_in k n b)
pairs_cut k kept n b whole l =
    let all : n ≡ kept + (n - kept) = omega arith in
    sym (pairs_before k kept b (place_at_most k kept n b whole l)) ∙ sym (take-pairs k kept (n - kept) b)
    ∙ ap (λ j. take kept (pairs_in k j b)) (sym all)

pub length-cut : (k kept n : ℕ) (b : List ℕ) → length b ≡ n * (k + 4) → kept ≤ n
    → length (take (kept * (k + 4)) b) ≡ kept * (k + 4)
length-cut k kept n b whole l = length-take-le (kept * (k + 4)) b (place_at_most k kept n b whole l)

pub no_pairs : (k : ℕ) (b : List ℕ) → pairs_in k 0 b ≡ []
unfolding pairs_in
no_pairs k b = refl

pub pairs_pushed : (k n x : ℕ) (key b b2 : List ℕ) → length key ≡ k → x < 2 ^ 32 → length b ≡ n * (k + 4)
    → b2 ≡ b ++ (key ++ little_bytes 4 x) → pairs_in k (n + 1) b2 ≡ pairs_in k n b ++ (key, x) ∷ []
pairs_pushed k n x key b b2 e fits whole is =
    let rest : key ++ little_bytes 4 x ≡ key ++ (little_bytes 4 x ++ []) =
    ap (λ (m : List ℕ). key ++ m) (sym (append-nil (little_bytes 4 x))) in
    ap (pairs_in k (n + 1)) is ∙ pairs_joined k n 1 b (key ++ little_bytes 4 x) whole
    ∙ ap (λ (r : List Pair). pairs_in k n b ++ r)
    (ap (pairs_in k 1) rest ∙ pairs_one k 0 x key [] e fits ∙ ap (λ (m : List Pair). (key, x) ∷ m) (no_pairs k []))

pub length-pushed : (k n x : ℕ) (key b b2 : List ℕ) → length key ≡ k → length b ≡ n * (k + 4)
    → b2 ≡ b ++ (key ++ little_bytes 4 x) → length b2 ≡ (n + 1) * (k + 4)
length-pushed k n x key b b2 e whole is =
    omega (
      arith,
      ap (λ (r : List ℕ). length r) is,
      length-append b (key ++ little_bytes 4 x),
      length-append key
          (little_bytes 4 x),
      length-bytes_low_first 0 4 x,
      next_place k n,
      e,
      whole,
    )

-- so many pairs from a place on
pub part_at_most : (k at size n : ℕ) (b : List ℕ) → length b ≡ n * (k + 4) → at + size ≤ n
    → at * (k + 4) + size * (k + 4) ≤ length b
part_at_most k at size n b whole l = omega (arith, add-mul at size (k + 4), mul-le-mul_right (k + 4) l, whole)

pub part_length : (k at size n : ℕ) (b : List ℕ) → length b ≡ n * (k + 4) → at + size ≤ n
    → length (take (size * (k + 4)) (drop (at * (k + 4)) b)) ≡ size * (k + 4)
part_length k at size n b whole l = length-take-le (size * (k + 4)) (drop (at * (k + 4)) b)
    (omega (arith, part_at_most k at size n b whole l, length-drop (at * (k + 4)) b))

pub pairs_copied : (k at size n m : ℕ) (b to b2 : List ℕ) → at + size ≤ n → length b ≡ n * (k + 4)
    → length to ≡ m * (k + 4) → b2 ≡ to ++ take (size * (k + 4)) (drop (at * (k + 4)) b)
    → pairs_in k (m + size) b2 ≡ pairs_in k m to ++ take size (drop at (pairs_in k n b))
pairs_copied k at size n m b to b2 l from whole is =
    let rest : List ℕ = drop (at * (k + 4)) b in
    let all : n ≡ at + (size + (n - (at + size))) = omega arith in
    let inside : size * (k + 4) ≤ length rest =
    omega (arith, part_at_most k at size n b from l, length-drop (at * (k + 4)) b) in
    let behind : drop at (pairs_in k n b) ≡ pairs_in k (size + (n - (at + size))) rest =
    ap (λ j. drop at (pairs_in k j b)) all ∙ drop-pairs k at (size + (n - (at + size))) b in
    let here : pairs_in k size (take (size * (k + 4)) rest) ≡ take size (drop at (pairs_in k n b)) = sym
    (pairs_before k size rest inside) ∙ sym (take-pairs k size (n - (at + size)) rest)
    ∙ ap (take size) (sym behind) in
    ap (pairs_in k (m + size)) is ∙ pairs_joined k m size to (take (size * (k + 4)) rest) whole
    ∙ ap (λ (r : List Pair). pairs_in k m to ++ r) here

pub length-copied : (k at size n m : ℕ) (b to b2 : List ℕ) → at + size ≤ n → length b ≡ n * (k + 4)
    → length to ≡ m * (k + 4) → b2 ≡ to ++ take (size * (k + 4)) (drop (at * (k + 4)) b)
    → length b2 ≡ (m + size) * (k + 4)
length-copied k at size n m b to b2 l from whole is =
    omega (
      arith,
      ap (λ (r : List ℕ). length r) is,
      length-append to (take (size * (k + 4)) (drop (at * (k + 4)) b)),
      part_length k at size n b from l,
      add-mul m size (k + 4),
      whole,
    )

-- ---- the keys' length

pub key_length_is : (k j n : ℕ) (b : List ℕ) → length b ≡ n * (k + 4) → 0 < n → HaveKeys j (pairs_in k n b) → k ≡ j
unfolding pairs_in
key_length_is k j zero b whole some keys = absurd (omega arith)
key_length_is k j (suc n) b whole some keys = sym (length-take-le k b (omega (arith, whole, next_place k n))) ∙ keys.0

-- an empty row is one of any key length
pub adopted : (k j n : ℕ) (b : List ℕ) → length b ≡ n * (k + 4) → HaveKeys j (pairs_in k n b)
    → (length b ≡ n * (j + 4)) × (pairs_in j n b ≡ pairs_in k n b)
unfolding pairs_in
adopted k j zero b whole keys = (omega (arith, whole), refl)
adopted k j (suc n) b whole keys = let e = key_length_is k j (suc n) b whole (omega arith) keys in
    (subst (λ i. length b ≡ suc n * (i + 4)) e whole, ap (λ i. pairs_in i (suc n) b) (sym e))

-- ---- a search by halving

pub place_past : (x : Pair) (l : List Pair) (m : ℕ) (d : Pair) → IsRising l → m < length l
    → is_before (get_or l m d) x ≡ true → suc m ≤ place_of x l
place_past x [] m d r n e = absurd (omega arith)
place_past x (y ∷ l) zero d r n e = rw e (omega arith)
place_past x (y ∷ l) (suc m) d r n e =
    let first : is_before y x ≡ true =
    is_before_strict.trans y (get_or l m d) x (Each-at (λ z. is_before y z ≡ true) l m d r.0 (omega arith)) e in
    let next : suc m ≤ place_of x l = place_past x l m d r.1 (omega arith) e in
    rw first (omega (arith, next))

pub place_not_past : (x : Pair) (l : List Pair) (m : ℕ) (d : Pair) → m < length l → is_before (get_or l m d) x ≡ false
    → place_of x l ≤ m
place_not_past x [] m d n e = absurd (omega arith)
place_not_past x (y ∷ l) zero d n e = rw e (omega arith)
place_not_past x (y ∷ l) (suc m) d n e =
    let next : place_of x l ≤ m = place_not_past x l m d (omega arith) e in
    elim (is_before y x) as (λ b. cond b (suc (place_of x l)) 0 ≤ suc m) [
      | true ↦ omega (arith, next)
      | false ↦ omega
          arith
    ]

-- ---- a pair in the place of another

pub put_again : (xs : List Pair) (at : ℕ) (x : Pair) → at < length xs → insert (remove xs at) at x ≡ set xs at x
put_again [] at x l = absurd (omega arith)
put_again (y ∷ xs) zero x l = refl
put_again (y ∷ xs) (suc at) x l = ap (λ (r : List Pair). y ∷ r) (put_again xs at x (omega arith))

pub with_nothing : (xs ys : List Pair) → ys ≡ [] → xs ≡ xs ++ ys
with_nothing [] ys e = sym e
with_nothing (x ∷ xs) ys e = ap (λ (r : List Pair). x ∷ r) (with_nothing xs ys e)

pub with_none : (xs ys : List Pair) (at size : ℕ) → size ≡ 0 → xs ≡ xs ++ take size (drop at ys)
with_none xs ys at size e = with_nothing xs (take size (drop at ys)) (ap (λ n. take n (drop at ys)) e)

-- the last of a row and the others
pub last_apart : (l front : List Pair) (x : Pair) (n : ℕ) → n + 1 ≡ length l → x ≡ get_or l n x → front ≡ take n l
    → l ≡ front ++ x ∷ []
last_apart [] front x n e g f = absurd (omega arith)
last_apart (y ∷ []) front x zero e g f = rw (f, g) refl
last_apart (y ∷ z ∷ l) front x zero e g f = absurd (omega arith)
last_apart (y ∷ l) front x (suc n) e g f =
    rw f (ap (λ (m : List Pair). y ∷ m) (last_apart l (take n l) x n (omega arith) g refl))

-- the first of a list, taken out
pub first_out : {X : Type 0} (l rest : List X) (x : X) → 0 < length l → x ≡ get_or l 0 x → rest ≡ remove l 0
    → l ≡ x ∷ rest
first_out [] rest x n e f = absurd (omega arith)
first_out (y ∷ l) rest x n e f = rw (f, e) refl
