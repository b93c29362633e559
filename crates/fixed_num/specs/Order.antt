-- The order of numbers by value.
use Rattle.std.specs.Prelude.{if◌then◌else◌}
use Rattle.std.specs.declared.cmp.Ordering.{Ordering}
use Rattle.std.specs.declared.cmp.Ordering.TheVariants.{Less, Equal, Greater}
use Rattle.std.specs.Ordering.{int_cmp, is_lt, is_gt}
use Rattle.fixed_num.specs.Number.{Number, asterisk, finite, scaled}

-- `m / 10 ^ d` beside `n / 10 ^ e`; the asterisk value is above every number and equal to itself
abbrev pub compared : Number → Number → Ordering
compared (finite m d) (finite n e) = int_cmp (scaled m e) (scaled n d)
compared asterisk asterisk = Equal
compared asterisk (finite n e) = Greater
compared (finite m d) asterisk = Less

-- the greater of two numbers, the first of equal ones
abbrev pub greater_of : Number → Number → Number
greater_of x y = if is_lt (compared x y) then y else x

-- the lesser of two numbers, the first of equal ones
abbrev pub lesser_of : Number → Number → Number
lesser_of x y = if is_gt (compared x y) then y else x
