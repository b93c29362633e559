-- Rows in the order of their bytes.
use Rattle.std.specs.Prelude.{◌≡◌, ℕ, ◌<◌, ◌≤◌, List, [], ◌∷◌, length, slice_index_or, ⊤, false}
use Rattle.std.specs.Cmp.Lexicographic.{slice_cmp}
use Rattle.std.specs.Ordering.{nat_cmp, is_lt}
use Rattle.std.specs.declared.cmp.Ordering.{Ordering}
use Rattle.std.specs.declared.cmp.Ordering.TheVariants.{Less}

abbrev pub row_cmp : List ℕ → List ℕ → Ordering
row_cmp a b = slice_cmp nat_cmp a b

-- a row isn't before another one
abbrev pub NotBefore : List ℕ → List ℕ → Type 0
NotBefore first row = is_lt (row_cmp row first) ≡ false

-- no row is before one that stands in front of it
abbrev pub Rising : List (List ℕ) → Type 0
Rising rows =
    (i j : ℕ) (d : List ℕ) → i ≤ j → j < length rows → NotBefore (slice_index_or rows i d) (slice_index_or rows j d)

-- a row is before the first of others, if there is one
abbrev pub IsBeforeFirst : List ℕ → List (List ℕ) → Type 0
IsBeforeFirst row [] = ⊤
IsBeforeFirst row (first ∷ rows) = row_cmp row first ≡ Less
