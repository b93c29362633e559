use Rattle.std.proofs.Common.{◌≡◌, ◌∙◌, refl, ◌*◌, ◌+◌, ◌-◌, min, ap, get_or, arith}
use Rattle.fixed_num.specs.Number.{magnitude_limit}
use Rattle.fixed_num.specs.Reading.{with_digits}
use Rattle.fixed_num.proofs.ReadingLemmas.{with_digits-capped, capped_more}
use Rattle.fixed_num.proofs.reading.with_digits.Goals as goal

pub loop-digit-init : goal.loop-digit-init
loop-digit-init c =
    let first : c.min-magnitude.result ≡ min magnitude_limit c.args.number = omega arith in (
      omega arith,
      ap (λ n. min magnitude_limit (with_digits n c.args.digits.now)) first
          ∙ with_digits-capped c.args.number c.args.digits.now,
    )

pub loop-digit-preserved : goal.loop-digit-preserved
loop-digit-preserved c =
    let ds = c.args.digits.now in
    let i = c.loop-digit.digit-index in
    let next : c.min-magnitude-in-loop-digit.result ≡ min (c.loop-digit.magnitude * 10 + (get_or ds i 0 - 48))
    magnitude_limit = omega arith in (
      omega arith,
      capped_more c.loop-digit.magnitude (get_or ds i 0) _ ds i (omega arith) refl next
          ∙ c.loop-digit.invariant.1,
    )
