-- Pairs in a row of bytes.
use Rattle.std.specs.Prelude.{◌≡◌, ℕ, zero, suc, ◌+◌, ◌*◌, ◌<◌, ◌≤◌, List, [], ◌∷◌, length, take, drop, slice_index}
use Rattle.byteorder.specs.Endian.{little_number}
use Rattle.key_lists.specs.Order.{Each}
use Rattle.key_lists.specs.Pairs.{Pair}

-- each is a byte
abbrev pub AreBytes : List ℕ → Type 0
AreBytes bytes = (k : ℕ) → slice_index bytes k < 256

-- the pairs of a row, and how many bytes it has room for
pub record FlatView : Type 0 where
  pub items : List Pair
  pub room : ℕ

-- so many pairs with keys of k bytes: each is its key, and its record number in four bytes, the lowest first
unfoldable pub pairs_in : ℕ → ℕ → List ℕ → List Pair
pairs_in k zero bytes = []
pairs_in k (suc n) bytes = (take k bytes, little_number 4 (drop k bytes)) ∷ pairs_in k n (drop (k + 4) bytes)

-- the bytes are so many pairs and no more
pub record IsFlat (k n : ℕ) (bytes : List ℕ) : Type 0 where
  pub whole : length bytes ≡ n * (k + 4)
  pub short : k ≤ 100

-- each key has k bytes
abbrev pub HaveKeys : ℕ → List Pair → Type 0
HaveKeys k pairs = Each (λ p. length p.0 ≡ k) pairs
