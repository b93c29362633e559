use Rattle.std.proofs.Common.{◌∙◌, ◌-◌, ◌^◌, refl}
use Rattle.fixed_num.proofs.RoundLemmas.{with_more, with_fewer}
use Rattle.fixed_num.proofs.number.Num.with_decimals.Goals as goal

pub returns-then-decimals-parts : goal.returns-then-decimals-parts
returns-then-decimals-parts c =
    let parts = c.in-Some.parts in
    let made = rw (c.from.ensures, c.from-then-decimals-parts.ensures) at c.from_magnitude.ensures in
    rw (← c.in-Some.ensures.same) (made ∙ with_more parts.negative parts.magnitude parts.decimals c.args.decimals
    c.power_of_ten-power.result c.if-decimals-parts.true c.power_of_ten-power.ensures.value)

pub returns : goal.returns
returns c =
    let parts = c.in-Some.parts in
    rw (← c.in-Some.ensures.same) (c.from_magnitude-2.ensures ∙ with_fewer parts.negative parts.magnitude parts.decimals
    c.args.decimals (10 ^ (parts.decimals - c.args.decimals)) _ c.if-decimals-parts.false refl
    c.nearest_shorter-shorter.ensures)
