-- Values by their kinds, one after another.
use Rattle.std.specs.Prelude.{◌≡◌, ℕ, ◌≤◌, List, ◌++◌, drop, length}
use Rattle.xvalue.specs.declared.value.Value.{Value}
use Rattle.xvalue.specs.Given.{Given, by_kind, numbers_in, texts_in, dates_in, truths_in}

-- these first, then the values behind
abbrev pub and_then : Given → List Value → Given
and_then all values = record {
  numbers = all.numbers ++ numbers_in values;
  texts = all.texts ++ texts_in values;
  dates = all.dates ++ dates_in values;
  truths = all.truths ++ truths_in values;
}

-- what is gathered so far is of the first values, and has no more of each kind
pub record Gathers (values : List Value) (count : ℕ) (all : Given) : Type 0 where
  pub numbers : length all.numbers ≤ count
  pub texts : length all.texts ≤ count
  pub dates : length all.dates ≤ count
  pub truths : length all.truths ≤ count
  pub same : and_then all (drop count values) ≡ by_kind values
