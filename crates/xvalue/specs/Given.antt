-- What a function is given: its arguments by their kinds.
use Rattle.std.specs.Prelude.{ℕ, List, [], ◌∷◌, Bool, Option}
use Rattle.arrayvec.specs.ArrayVec.{ArrayVec}
use Rattle.fixed_num.specs.Number.{Number as Decimal}
use Rattle.calendar.specs.declared.day.DayParts.{DayParts}
use Rattle.xvalue.specs.declared.value.Value.{Value}
use Rattle.xvalue.specs.declared.value.Value.TheVariants.{Number, Text, Date, Logical}
use Rattle.xvalue.specs.declared.arguments.Arguments.{Arguments}
use Rattle.xvalue.specs.declared.arguments.Gathered.{Gathered}

-- values by their kinds, those of one kind in their order
pub record Given : Type 0 where
  pub numbers : List Decimal
  pub texts : List (ArrayVec ℕ)
  pub dates : List (Option DayParts)
  pub truths : List Bool

-- the values of each kind, in order

abbrev pub numbers_in : List Value → List Decimal
numbers_in [] = []
numbers_in (Number number ∷ values) = number ∷ numbers_in values
numbers_in (Text text ∷ values) = numbers_in values
numbers_in (Date day ∷ values) = numbers_in values
numbers_in (Logical truth ∷ values) = numbers_in values

abbrev pub texts_in : List Value → List (ArrayVec ℕ)
texts_in [] = []
texts_in (Number number ∷ values) = texts_in values
texts_in (Text text ∷ values) = text ∷ texts_in values
texts_in (Date day ∷ values) = texts_in values
texts_in (Logical truth ∷ values) = texts_in values

abbrev pub dates_in : List Value → List (Option DayParts)
dates_in [] = []
dates_in (Number number ∷ values) = dates_in values
dates_in (Text text ∷ values) = dates_in values
dates_in (Date day ∷ values) = day ∷ dates_in values
dates_in (Logical truth ∷ values) = dates_in values

abbrev pub truths_in : List Value → List Bool
truths_in [] = []
truths_in (Number number ∷ values) = truths_in values
truths_in (Text text ∷ values) = truths_in values
truths_in (Date day ∷ values) = truths_in values
truths_in (Logical truth ∷ values) = truth ∷ truths_in values

abbrev pub by_kind : List Value → Given
by_kind values =
    record { numbers = numbers_in values; texts = texts_in values; dates = dates_in values; truths = truths_in values }

-- two numbers alone
abbrev pub two_numbers : Decimal → Decimal → Given
two_numbers first second = record { numbers = first ∷ second ∷ []; texts = []; dates = []; truths = [] }

-- what the arguments of a call lend
abbrev pub given : Arguments → Given
given arguments = record {
  numbers = arguments.numbers.now;
  texts = arguments.texts.now;
  dates = arguments.dates.now;
  truths = arguments.truths.now;
}

abbrev pub gathered : Gathered → Given
gathered all =
    record { numbers = all.numbers.items; texts = all.texts.items; dates = all.dates.items; truths = all.truths.items }
