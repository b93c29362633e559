-- The value of each kind that stands for nothing.
use Rattle.std.specs.Prelude.{[], false, pos, None}
use Rattle.fixed_num.specs.Number.{finite}
use Rattle.xvalue.specs.declared.kind.Kind.{Kind}
use Rattle.xvalue.specs.declared.kind.Kind.TheVariants.{Number as OfNumber, Text as OfText, Date as OfDate}
use Rattle.xvalue.specs.declared.kind.Kind.TheVariants.{Logical as OfLogical}
use Rattle.xvalue.specs.declared.value.Value.{Value}
use Rattle.xvalue.specs.declared.value.Value.TheVariants.{Number, Text, Date, Logical}

-- 0, the empty text, the blank date or false
abbrev pub blank_of : Kind → Value
blank_of OfNumber = Number (finite (pos 0) 0)
blank_of OfText = Text (record { items = [] })
blank_of OfDate = Date None
blank_of OfLogical = Logical false
