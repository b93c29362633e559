use Rattle.std.proofs.Common.{◌∙◌, ◌<◌, ◌*◌, arith}
use Rattle.std.proofs.Math.Nat.{mul-pos}
use Rattle.fixed_num.proofs.RoundLemmas.{multiple_fits, multiple_from}
use Rattle.fixed_num.proofs.number.Num.multiple.Goals as goal

pub overflow_mul-count : goal.overflow_mul-count
overflow_mul-count c =
    let positive : 0 < c.from.result * c.from-unit.result = mul-pos (omega arith) (omega arith) in
    omega (
      arith,
      multiple_fits c.from-2.result (c.from.result * c.from-unit.result) c.from-unit.result c.args.zeros
          c.nearest-count.result (omega arith) positive c.requires.few
          (c.from-unit.ensures ∙ c.power_of_ten.ensures.value) c.nearest-count.ensures,
    )

pub returns : goal.returns
returns c =
    let parts = c.in-Some.parts in
    let count = rw (c.from-2.ensures) at c.nearest-count.ensures in
    rw (← c.in-Some.ensures.same) (c.from_magnitude.ensures ∙ multiple_from parts.negative parts.magnitude
    parts.decimals c.args.zeros c.from.result c.from-unit.result c.nearest-count.result c.requires.some
    (c.from.ensures ∙ c.power_of_ten-2.ensures.value) (c.from-unit.ensures ∙ c.power_of_ten.ensures.value) count)
