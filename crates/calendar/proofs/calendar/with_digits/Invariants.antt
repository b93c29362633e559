use Rattle.std.proofs.Common.{◌≡◌, ◌<◌, ◌^◌, drop, true}
use Rattle.fixed_num.specs.Reading.{with_digits, are_digits}
use Rattle.calendar.proofs.calendar.with_digits.Given as goal

abbrev pub invariant-loop-digit : goal.invariant-loop-digit
invariant-loop-digit l = record {
  value : with_digits l.number (drop l.digit-index l.digits) ≡ with_digits 0 l.digits;
  digits : are_digits (drop l.digit-index l.digits) ≡ true;
  small : l.number < 10 ^ l.digit-index;
}
