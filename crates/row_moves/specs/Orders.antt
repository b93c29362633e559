-- Rows in an order, as pairs of a key and a record.
use Rattle.std.specs.Prelude.{◌≡◌, ℕ, zero, suc, ◌+◌, Bool, true, false, Option, Some, None, List, [], ◌∷◌, Contains}
use Rattle.std.specs.Prelude.{reverse}
use Rattle.key_lists.specs.Order.{above, below}
use Rattle.key_lists.specs.Pairs.{Pair, is_before}

-- the pair of a record in record order, which has no key; records count from 1
abbrev pub record_pair : ℕ → Option Pair
record_pair zero = None
record_pair (suc n) = Some ([], suc n)

-- so many records from the n-th on
abbrev pub records_from : ℕ → ℕ → List Pair
records_from n zero = []
records_from n (suc count) = ([], n) ∷ records_from (n + 1) count

-- record order: the records 1 to a count
abbrev pub record_order : ℕ → List Pair
record_order count = records_from 1 count

-- the pairs that lie before one who goes on from a pair, or who comes to the start
abbrev pub ahead : Option Pair → List Pair → List Pair
ahead None pairs = pairs
ahead (Some p) pairs = above is_before p pairs

-- and those behind one who goes back from a pair, or from the end, the nearest first
abbrev pub behind : Option Pair → List Pair → List Pair
behind None pairs = reverse pairs
behind (Some p) pairs = below is_before p pairs

-- the pairs that lie in the direction of a move, the nearest first
abbrev pub candidates : Bool → Option Pair → List Pair → List Pair
candidates true at pairs = ahead at pairs
candidates false at pairs = behind at pairs

-- a test of rows may be called at each listed record
abbrev pub MayTry : {F : Type 0} → (F → ℕ → Type 0) → F → List Pair → Type 0
MayTry may see pairs = (p : Pair) → Contains pairs p → may see p.1

-- and answers there what is shown
abbrev pub Sees : {F : Type 0} → (F → ℕ → Bool → Type 0) → F → List Pair → (ℕ → Bool) → Type 0
Sees answers see pairs shown = (p : Pair) → Contains pairs p → (r : Bool) → answers see p.1 r → r ≡ shown p.1
