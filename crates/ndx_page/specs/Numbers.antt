-- Numbers in a page, the lowest byte first, and zeros behind what is used.
use Rattle.std.specs.Prelude.{ℕ, ◌-◌, List, ◌++◌, length, drop, replicate}
use Rattle.byteorder.specs.Endian.{little_number, little_bytes}

-- the number in the n bytes from a place on
unfoldable pub number_at : ℕ → ℕ → List ℕ → ℕ
number_at n place bytes = little_number n (drop place bytes)

-- a number in n bytes
unfoldable pub number_text : ℕ → ℕ → List ℕ
number_text n number = little_bytes n number

-- these bytes, and zeros behind them, n bytes in all
abbrev pub padded : ℕ → List ℕ → List ℕ
padded n bytes = bytes ++ replicate (n - length bytes) 0
