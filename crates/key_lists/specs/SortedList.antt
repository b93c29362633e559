use Rattle.std.specs.Prelude.{ℕ, List}
use Rattle.key_lists.specs.KeyForm.{KeyForm}
use Rattle.key_lists.specs.Pairs.{Pair}

-- what callers see of a sorted list of keys: its pairs in order, for how many more there is room, and its keys' form
pub record SortedList : Type 0 where
  pub pairs : List Pair
  pub spare : ℕ
  pub form : KeyForm
