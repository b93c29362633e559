-- Pairs in record order.
use Rattle.std.proofs.Common.{◌≡◌, ℕ, zero, suc, ◌+◌, ◌-◌, ◌<◌, ◌≤◌, inl, inr, true, false, nat_lt, min, Some}
use Rattle.std.proofs.Common.{None, List, [], ◌∷◌, ◌++◌, length, reverse, filter, refl, ap, ◌∙◌, arith}
use Rattle.std.proofs.lemmas.Bool.{lt-ltb, le-ltb, cases_lt}
use Rattle.std.proofs.lemmas.Bool.Decides.{nat_tests}
use Rattle.std.proofs.lemmas.List.{reverse-append}
use Rattle.key_lists.specs.Order.{Each, first, above, below, IsAscending}
use Rattle.key_lists.specs.Pairs.{Pair, is_before}
use Rattle.row_moves.specs.Orders.{records_from, record_order, record_pair}

pub before_numbers : (m n : ℕ) → is_before ([], m) ([], n) ≡ nat_lt m n
unfolding is_before
before_numbers m n = grind (arith, nat_tests)

before : (m n : ℕ) → m < n → is_before ([], m) ([], n) ≡ true
before m n lt = before_numbers m n ∙ lt-ltb m n lt

not_before : (m n : ℕ) → n ≤ m → is_before ([], m) ([], n) ≡ false
not_before m n le = before_numbers m n ∙ le-ltb m n le

pub length-records : (n count : ℕ) → length (records_from n count) ≡ count
length-records n zero = refl
length-records n (suc count) = ap suc (length-records (n + 1) count)

each_later : (m n count : ℕ) → m < n → Each (λ p. is_before ([], m) p ≡ true) (records_from n count)
each_later m n zero lt = tt
each_later m n (suc count) lt = (before m n lt, each_later m (n + 1) count (omega arith))

pub ascending_records : (n count : ℕ) → IsAscending is_before (records_from n count)
ascending_records n zero = tt
ascending_records n (suc count) = (each_later n (n + 1) count (omega arith), ascending_records (n + 1) count)

-- ---- forward

pub first_record : (count : ℕ) → first (record_order count) ≡ record_pair (min count 1)
first_record zero = refl
first_record (suc count) = let one : min (suc count) 1 ≡ 1 = omega arith in rw one refl

-- the next number stands next, if there is one
above_there : (m n count : ℕ) → n ≤ m + 1 → m + 1 < n + count → first (above is_before ([], m) (records_from n count))
    ≡ Some ([], m + 1)
above_there m n zero le lt = absurd (omega arith)
above_there m n (suc count) le lt = elim (cases_lt m n) [
  | inl less ↦ let same : n ≡ m + 1 = omega arith in rw (before m n less) (ap (λ (k : ℕ). Some ([], k)) same)
  | inr more ↦ rw (not_before m n more) (above_there m (n + 1) count (omega arith) (omega arith))
]

above_none : (m n count : ℕ) → n + count ≤ m + 1 → first (above is_before ([], m) (records_from n count)) ≡ None
above_none m n zero le = refl
above_none m n (suc count) le = rw (not_before m n (omega arith)) (above_none m (n + 1) count (omega arith))

pub next_there : (count n : ℕ) → n < count → first (above is_before ([], n) (record_order count)) ≡ Some ([], n + 1)
next_there count n lt = above_there n 1 count (omega arith) (omega arith)

pub none_after : (count n : ℕ) → count ≤ n → first (above is_before ([], n) (record_order count)) ≡ None
none_after count n le = above_none n 1 count (omega arith)

-- ---- back

last_apart : (n count : ℕ) → records_from n (suc count) ≡ records_from n count ++ ([], n + count) ∷ []
last_apart n zero = ap (λ (k : ℕ). ([], k) ∷ []) (omega arith)
last_apart n (suc count) = ap (λ (ps : List Pair). ([], n) ∷ ps)
    (last_apart (n + 1) count ∙ ap (λ (k : ℕ). records_from (n + 1) count ++ ([], k) ∷ []) (omega arith))

turned : (count : ℕ) → reverse (record_order (suc count)) ≡ ([], suc count) ∷ reverse (record_order count)
turned count = ap reverse (last_apart 1 count) ∙ reverse-append (record_order count) (([], 1 + count) ∷ [])
    ∙ ap (λ (k : ℕ). ([], k) ∷ reverse (record_order count)) (omega arith)

pub last_record : (count : ℕ) → first (reverse (record_order count)) ≡ record_pair count
last_record zero = refl
last_record (suc count) = ap first (turned count)

pub record_below : (count n : ℕ) → first (below is_before ([], n) (record_order count))
    ≡ record_pair (min (n - 1) count)
record_below zero n = let none : min (n - 1) 0 ≡ 0 = omega arith in rw none refl
record_below (suc count) n =
    ap (λ ps. first (filter (λ p. is_before p ([], n)) ps)) (turned count)
    ∙ elim (cases_lt (suc count) n) [
      | inl less ↦ let most : min (n - 1) (suc count) ≡ suc count =
          omega arith in rw (before (suc count) n less, most) refl
      | inr more ↦ let same : min (n - 1) (suc count) ≡ min (n - 1) count =
          omega arith in rw (not_before (suc count) n more, same) (record_below count n)
    ]
