use Rattle.std.proofs.Common.{◌≡◌, ◌≤◌, min, drop}
use Rattle.fixed_num.specs.Number.{magnitude_limit}
use Rattle.fixed_num.specs.Reading.{with_digits}
use Rattle.fixed_num.proofs.reading.with_digits.Given as goal

abbrev pub invariant-loop-digit : goal.invariant-loop-digit
invariant-loop-digit l =
    (l.magnitude ≤ magnitude_limit) × (min magnitude_limit (with_digits l.magnitude (drop l.digit-index l.digits))
    ≡ min magnitude_limit (with_digits l.number l.digits))
