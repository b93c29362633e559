use Rattle.std.proofs.Common.{◌∙◌, ap₂, sym, arith}
use Rattle.fixed_num.specs.Arithmetic.{modulus_of}
use Rattle.fixed_num.proofs.RemainderLemmas.{modulus_above}
use Rattle.fixed_num.proofs.number.Num.modulo.Goals as goal

pub returns-then-pair-ne0 : goal.returns-then-pair-ne0
returns-then-pair-ne0 c =
    let pair = c.in-Some.pair in
    let given = c.in-Some.ensures in
    c.of_sign.ensures ∙ modulus_above pair.first pair.second pair.decimals given.first_fits (omega arith)
    ∙ sym (ap₂ modulus_of given.first given.second)
