use Rattle.std.proofs.Common.{◌∙◌, ap, sym, not, ◌+◌}
use mathlib.Core.Bool.{beq}
use Rattle.fixed_num.proofs.arithmetic.product_of_any.Goals as goal
use Rattle.fixed_num.specs.Arithmetic.{fitted}
use Rattle.fixed_num.proofs.SignLemmas.{product_signed}
use Rattle.fixed_num.proofs.RoundLemmas.{fitted_many}

pub returns : goal.returns
returns c =
    let a = c.in-Some-Some.a in
    let b = c.in-Some-Some.b in
    let e = product_signed a.negative b.negative a.magnitude b.magnitude in
    let magnitudes = rw (c.from.ensures, c.from-2.ensures) at c.nearest-kept.ensures in
    let f = fitted_many (not (beq a.negative b.negative)) _ (a.decimals + b.decimals) _ _
    c.if-decimals-le-MOST_DECIMALS.false (c.from-unit.ensures ∙ c.power_of_ten.ensures.value) magnitudes in
    rw (← c.in-Some-Some.ensures.same, ← c.in-Some-Some.ensures'.same)
    (c.from_magnitude-2.ensures ∙ f ∙ ap (λ m. fitted m (a.decimals + b.decimals)) (sym e))
