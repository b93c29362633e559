-- Lists of indexes that are opened together.
use Rattle.std.specs.Prelude.{ℕ, Bool, true, false, not, ◌&&◌, ◌==◌, nat_le, length, List, [], ◌∷◌, Option, Some, None}
use Rattle.std.specs.Prelude.{slice_get}
use Rattle.std.specs.List.{list_all, list_any}
use Rattle.shape.specs.declared.indexes.IndexShape.{IndexShape}
use Rattle.shape.specs.declared.lists.IndexList.{IndexList}

abbrev pub has_table : ℕ → Option IndexShape → Bool
has_table table None = false
has_table table (Some x) = x.table == table

-- the number is that of an index of the table
abbrev pub is_index_of : List IndexShape → ℕ → ℕ → Bool
is_index_of indexes table number = has_table table (slice_get indexes number)

abbrev pub table_of : Option IndexShape → Option ℕ
table_of None = None
table_of (Some x) = Some x.table

-- the table of the first
abbrev pub first_table : List IndexShape → List ℕ → Option ℕ
first_table indexes [] = None
first_table indexes (number ∷ numbers) = table_of (slice_get indexes number)

abbrev pub list_table : List IndexShape → IndexList → Option ℕ
list_table indexes l = first_table indexes l.indexes.items

-- no number twice
abbrev pub numbers_differ : List ℕ → Bool
numbers_differ [] = true
numbers_differ (number ∷ numbers) = not (list_any (λ other. other == number) numbers) && numbers_differ numbers

abbrev pub are_of_table : List IndexShape → List ℕ → Option ℕ → Bool
are_of_table indexes numbers None = false
are_of_table indexes numbers (Some table) = list_all (is_index_of indexes table) numbers && numbers_differ numbers

-- one to seven different indexes, all of one table
unfoldable pub is_list : List IndexShape → IndexList → Bool
is_list indexes l = nat_le (length l.indexes.items) 7 && are_of_table indexes l.indexes.items (list_table indexes l)
