use Rattle.std.proofs.Common.{◌∙◌, ap, ap₂, sym, max, arith, false}
use Rattle.fixed_num.specs.Arithmetic.{quotient_of}
use Rattle.fixed_num.specs.Rounding.{nearest}
use Rattle.fixed_num.proofs.QuotientLemmas.{quotient_from}
use Rattle.fixed_num.proofs.arithmetic.short_quotient.Goals as goal

pub returns : goal.returns
returns c =
    let both = c.in_ok-both.both in
    let are = c.in_ok-both.ensures in
    let decimals = c.max-decimals.ensures ∙ ap (λ x. max x 2) c.max.ensures in
    let dividend = c.from.ensures ∙ c.in_ok-dividend.ensures in
    let kept = c.nearest-kept.ensures ∙ ap₂ nearest dividend c.from-2.ensures in
    let quotient = quotient_from false false both.first both.second both.first_decimals both.second_decimals
    c.max-decimals.result c.nearest-kept.result (omega arith) decimals kept in
    c.from_magnitude.ensures ∙ quotient ∙ ap₂ quotient_of (sym are.first) (sym are.second)
