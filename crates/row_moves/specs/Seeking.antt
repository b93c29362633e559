-- Keys that begin with a text.
use Rattle.std.specs.Prelude.{ℕ, zero, suc, Option, Some, None, List, [], ◌∷◌, filter, if◌then◌else◌}
use Rattle.key_lists.specs.Laws.{begins_with}
use Rattle.key_lists.specs.Order.{above}
use Rattle.key_lists.specs.Pairs.{Pair, is_before, pairs_from}

-- a text cut to a length, or with blanks behind it up to that length
abbrev pub cut_or_filled : ℕ → List ℕ → List ℕ
cut_or_filled zero text = []
cut_or_filled (suc n) [] = 32 ∷ cut_or_filled n []
cut_or_filled (suc n) (b ∷ text) = b ∷ cut_or_filled n text

-- a pair whose key begins so
abbrev pub begun_or_none : List ℕ → Option Pair → Option Pair
begun_or_none start None = None
begun_or_none start (Some p) = if begins_with start p.0 then Some p else None

-- the pairs at the front whose keys begin so
abbrev pub front_run : List ℕ → List Pair → List Pair
front_run start [] = []
front_run start (p ∷ pairs) = if begins_with start p.0 then p ∷ front_run start pairs else []

-- the pairs whose keys begin so, from a pair on or from the first such key on
abbrev pub starting : List ℕ → Option Pair → List Pair → List Pair
starting start None pairs = front_run start (pairs_from start pairs)
starting start (Some p) pairs = front_run start (above is_before p pairs)

-- all of them
abbrev pub all_starting : List ℕ → List Pair → List Pair
all_starting start pairs = filter (λ p. begins_with start p.0) pairs
