use Rattle.std.proofs.Common.{◌∙◌, sym, ap₂, arith}
use Rattle.fixed_num.specs.Order.{compared}
use Rattle.fixed_num.proofs.OrderLemmas.{compared_longer, longer_some}
use Rattle.fixed_num.proofs.arithmetic.compared_any.Goals as goal

pub compared_alike-requires-clause-first : goal.compared_alike-requires-clause-first
compared_alike-requires-clause-first c =
    λ below. longer_some c.in-Some-Some.a.magnitude _ _
    (c.in-Some-Some.ensures.in_range.zero_unsigned (sym c.in-Some-Some-2.ensures.sign ∙ below))
    c.in-Some-Some-2.ensures.magnitude

pub compared_alike-requires-clause-second : goal.compared_alike-requires-clause-second
compared_alike-requires-clause-second c =
    λ below. longer_some c.in-Some-Some.b.magnitude _ _
    (c.in-Some-Some.ensures'.in_range.zero_unsigned (sym c.in-Some-Some-2.ensures'.sign ∙ below))
    c.in-Some-Some-2.ensures'.magnitude

pub returns-in-Some-Some-2 : goal.returns-in-Some-Some-2
returns-in-Some-Some-2 c =
    let a = c.in-Some-Some.a in
    let b = c.in-Some-Some.b in
    let found = rw (c.in-Some-Some-2.ensures.sign, c.in-Some-Some-2.ensures'.sign) at c.compared_alike.ensures in
    found
    ∙ compared_longer a.negative b.negative a.magnitude b.magnitude a.decimals b.decimals _ _ c.max-decimals.result
    (omega (arith, c.max-decimals.ensures)) (omega (arith, c.max-decimals.ensures))
    c.in-Some-Some-2.ensures.magnitude c.in-Some-Some-2.ensures'.magnitude
    ∙ ap₂ compared c.in-Some-Some.ensures.same c.in-Some-Some.ensures'.same
