-- Kinds of values.
use Rattle.std.specs.Prelude.{Bool, true, false, Option, Some, None}
use Rattle.xvalue.specs.declared.kind.Kind.{Kind}
use Rattle.xvalue.specs.declared.kind.Kind.TheVariants.{Number as OfNumber, Text as OfText, Date as OfDate}
use Rattle.xvalue.specs.declared.kind.Kind.TheVariants.{Logical as OfLogical}
use Rattle.xvalue.specs.declared.value.Value.{Value}
use Rattle.xvalue.specs.declared.value.Value.TheVariants.{Number, Text, Date, Logical}

-- the kind of a value
abbrev pub kind_of : Value → Kind
kind_of (Number number) = OfNumber
kind_of (Text text) = OfText
kind_of (Date day) = OfDate
kind_of (Logical truth) = OfLogical

-- the kind of what is held; none where nothing is
abbrev pub kind_held : Option Value → Option Kind
kind_held None = None
kind_held (Some value) = Some (kind_of value)

-- both are one kind
abbrev pub same_kind : Kind → Kind → Bool
same_kind OfNumber OfNumber = true
same_kind OfNumber OfText = false
same_kind OfNumber OfDate = false
same_kind OfNumber OfLogical = false
same_kind OfText OfNumber = false
same_kind OfText OfText = true
same_kind OfText OfDate = false
same_kind OfText OfLogical = false
same_kind OfDate OfNumber = false
same_kind OfDate OfText = false
same_kind OfDate OfDate = true
same_kind OfDate OfLogical = false
same_kind OfLogical OfNumber = false
same_kind OfLogical OfText = false
same_kind OfLogical OfDate = false
same_kind OfLogical OfLogical = true
