use Rattle.std.proofs.Common.{◌∙◌, ap, max, arith}
use Rattle.fixed_num.proofs.QuotientLemmas.{quotient_from, quotient_above}
use Rattle.fixed_num.proofs.arithmetic.quotient_of_any.Goals as goal

pub returns-in-Some : goal.returns-in-Some
returns-in-Some c =
    let a = c.in-Some-Some.a in
    let b = c.in-Some-Some.b in
    let decimals = c.max-decimals.ensures ∙ ap (λ x. max x 2) c.max.ensures in
    let q = quotient_from a.negative b.negative a.magnitude b.magnitude a.decimals b.decimals c.max-decimals.result
    c.in-Some.magnitude (omega arith) decimals c.in-Some.ensures in
    rw (← c.in-Some-Some.ensures.same, ← c.in-Some-Some.ensures'.same) (c.from_magnitude.ensures ∙ q)

pub returns-in-None : goal.returns-in-None
returns-in-None c =
    let a = c.in-Some-Some.a in
    let b = c.in-Some-Some.b in
    let decimals = c.max-decimals.ensures ∙ ap (λ x. max x 2) c.max.ensures in
    let q = quotient_above a.negative b.negative a.magnitude b.magnitude a.decimals b.decimals c.max-decimals.result
    (omega arith) decimals c.in-None.ensures in
    rw (← c.in-Some-Some.ensures.same, ← c.in-Some-Some.ensures'.same) (c.asterisk-in-None.ensures ∙ q)
