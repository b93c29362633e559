-- Numbers in a file, the lowest byte first.
use Rattle.std.specs.Prelude.{ℕ, List, drop}
use Rattle.byteorder.specs.Endian.{little_number, little_bytes}

-- the number in the n bytes from a place on
unfoldable pub number_at : ℕ → ℕ → List ℕ → ℕ
number_at n place bytes = little_number n (drop place bytes)

-- a number in n bytes
unfoldable pub number_text : ℕ → ℕ → List ℕ
number_text n number = little_bytes n number
