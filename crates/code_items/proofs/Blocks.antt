-- Blocks, one behind the other.
use Rattle.std.proofs.Common.{◌≡◌, ℕ, ◌-◌, ◌==◌, Bool, true, false, ◌&&◌, List, [], ◌∷◌, ◌++◌, Option, Some, None, refl}
use Rattle.std.proofs.Common.{if◌then◌else◌, nat_le}
use Rattle.code_items.specs.Legal.{blocks_fill, left_behind}

-- whether nothing is left
abbrev pub none_left : Option ℕ → List ℕ → Bool
none_left None ns = false
none_left (Some left) ns = blocks_fill left ns

pub filled : (left : ℕ) (ms ns : List ℕ) → blocks_fill left (ms ++ ns) ≡ none_left (left_behind left ms) ns
filled left [] ns = refl
filled left (m ∷ ms) ns = step (nat_le 1 m && nat_le m left) (filled (left - m) ms ns) where
  step : (b : Bool) → blocks_fill (left - m) (ms ++ ns) ≡ none_left (left_behind (left - m) ms) ns
      → (b && blocks_fill (left - m) (ms ++ ns)) ≡ none_left (if b then left_behind (left - m) ms else None) ns
  step true e = e
  step false e = refl

abbrev pub ends : Option ℕ → Bool
ends None = false
ends (Some left) = left == 0

pub filled_by : (left : ℕ) (ns : List ℕ) → blocks_fill left ns ≡ ends (left_behind left ns)
filled_by left [] = refl
filled_by left (n ∷ ns) = step (nat_le 1 n && nat_le n left) (filled_by (left - n) ns) where
  step : (b : Bool) → blocks_fill (left - n) ns ≡ ends (left_behind (left - n) ns)
      → (b && blocks_fill (left - n) ns) ≡ ends (if b then left_behind (left - n) ns else None)
  step true e = e
  step false e = refl
