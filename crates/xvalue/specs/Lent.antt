-- Values that are lent from where they stand.
use Rattle.std.specs.Prelude.{ℕ, List, Bool, Option}
use Rattle.fixed_num.specs.Number.{Number as Decimal}
use Rattle.calendar.specs.declared.day.DayParts.{DayParts}
use Rattle.xvalue.specs.declared.kind.Kind.{Kind}
use Rattle.xvalue.specs.declared.kind.Kind.TheVariants.{Number as OfNumber, Text as OfText, Date as OfDate}
use Rattle.xvalue.specs.declared.kind.Kind.TheVariants.{Logical as OfLogical}
use Rattle.xvalue.specs.declared.value.Value.{Value}
use Rattle.xvalue.specs.declared.value.Value.TheVariants.{Number, Text, Date, Logical}

-- the value of a kind, of which there is a number, a text, a date and a truth value
abbrev pub lent_as : Kind → Decimal → List ℕ → Option DayParts → Bool → Value
lent_as OfNumber number text day truth = Number number
lent_as OfText number text day truth = Text (record { items = text })
lent_as OfDate number text day truth = Date day
lent_as OfLogical number text day truth = Logical truth
