use Rattle.std.proofs.Common.{◌∙◌, ap₂, sym}
use Rattle.fixed_num.specs.Order.{compared}
use Rattle.fixed_num.proofs.OrderLemmas.{alike_above}
use Rattle.fixed_num.proofs.number.Num.cmp.Goals as goal

pub returns-in-Some : goal.returns-in-Some
returns-in-Some c =
    let pair = c.in-Some.pair in
    let given = c.in-Some.ensures in
    c.cmp.ensures ∙ alike_above pair.first pair.second pair.decimals ∙ sym (ap₂ compared given.first given.second)
