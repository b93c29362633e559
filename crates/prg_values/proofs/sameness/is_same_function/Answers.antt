use Rattle.std.proofs.Common.{◌≡◌, Some, sym, ap, ◌∙◌, arith}
use Rattle.std.proofs.lemmas.Bool.Decides.{nat_tests}
use Rattle.xvalue.specs.declared.fun.Fun.{Fun}
use Rattle.xvalue.specs.Signature.{numbered}
use Rattle.prg_values.proofs.sameness.is_same_function.Goals as goal

both : (f g : Fun) → Some f ≡ Some g → f ≡ g
both f g e = cc

pub returns : goal.returns
returns c = λ e.
    let same : c.number.result ≡ c.number-2.result = grind (arith, nat_tests) in
    let law = c.functions_have_their_numbers.ensures in
    both c.args.one c.args.two (sym (law.found c.args.one)
    ∙ (ap numbered (sym c.number.ensures ∙ (same ∙ c.number-2.ensures)) ∙ law.found c.args.two))
