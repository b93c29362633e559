use Rattle.std.proofs.Common.{◌≡◌, ◌<◌, ◌^◌, drop}
use Rattle.fixed_num.specs.Reading.{with_digits, are_digits}
use Rattle.dbf_file.proofs.values.digits_value.Given as goal

abbrev pub invariant-loop-digit : goal.invariant-loop-digit
invariant-loop-digit l = record {
  value : with_digits l.number (drop l.digit-index l.digits) ≡ with_digits 0 l.digits;
  digits : are_digits (drop l.digit-index l.digits) ≡ are_digits l.digits;
  small : l.number < 10 ^ 18;
}
