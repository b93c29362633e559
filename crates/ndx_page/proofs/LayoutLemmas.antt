-- How much room entries take.
use Rattle.std.proofs.Common.{ℕ, ◌+◌, ◌*◌, ◌≤◌, arith}
use Rattle.std.proofs.Math.Nat.{mul-le-mul_left, mul-le-mul_right, div-mul-le_self, add-mul, one-mul}
use Rattle.ndx_page.specs.Layout.{entry_size, most_entries}

-- the most entries take at most 504 bytes
pub most_entries-size : (l : ℕ) → most_entries l * entry_size l ≤ 504
unfolding most_entries
most_entries-size l = div-mul-le_self 504 (entry_size l)

-- fewer take no more
pub entries-size : (l n : ℕ) → n ≤ most_entries l → n * entry_size l ≤ 504
entries-size l n few = let most = most_entries-size l in let less = mul-le-mul_right (entry_size l) few in omega
    (arith, most, less)

-- no page has more than 42 entries
pub most_entries-bound : (l : ℕ) → 1 ≤ l → most_entries l ≤ 42
most_entries-bound l some =
    let most = most_entries-size l in
    let twelve : 12 ≤ entry_size l = omega arith in
    let less = mul-le-mul_left (most_entries l) twelve in
    omega (arith, most, less)

-- nor does one more
pub next-size : (l i : ℕ) → i + 1 ≤ most_entries l → i * entry_size l + entry_size l ≤ 504
next-size l i few = let room = entries-size l (i + 1) few in let grown = add-mul i 1 (entry_size l) in let one = one-mul
    (entry_size l) in omega (arith, room, grown, one)
