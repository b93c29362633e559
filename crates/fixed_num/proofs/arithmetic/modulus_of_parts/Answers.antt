use Rattle.std.proofs.Common.{◌∙◌, ap₂, ◌*◌}
use Rattle.fixed_num.proofs.RemainderLemmas.{modulus_from}
use Rattle.fixed_num.proofs.arithmetic.modulus_of_parts.Goals as goal

pub returns : goal.returns
returns c =
    let a = c.args.a in
    let b = c.args.b in
    let left = ap₂ (λ v w. v * w) c.from.ensures (c.from-2.ensures ∙ c.power_of_ten.ensures.value) in
    let right = ap₂ (λ v w. v * w) c.from-3.ensures (c.from-4.ensures ∙ c.power_of_ten-2.ensures.value) in
    c.from_magnitude.ensures
    ∙ modulus_from a.negative b.negative a.magnitude b.magnitude a.decimals b.decimals c.max-decimals.result
    (c.from.result * c.from-2.result) (c.from-3.result * c.from-4.result) c.floored_rest-rest.result
    c.requires.divisor c.max-decimals.ensures left right c.floored_rest-rest.ensures
