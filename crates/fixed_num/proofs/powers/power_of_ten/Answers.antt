use Rattle.std.proofs.Common.{◌^◌, arith, refl, ap, ◌∙◌, zero-add}
use Rattle.fixed_num.specs.declared.powers.TheConstants.{POWERS_OF_TEN}
use Rattle.fixed_num.proofs.PowerLemmas.{get_or-powers}
use Rattle.std.proofs.Math.Nat.{one-le-pow}
use Rattle.fixed_num.proofs.powers.power_of_ten.Goals as goal

pub returns-clause-value : goal.returns-clause-value
returns-clause-value c =
    get_or-powers POWERS_OF_TEN 0 c.args.exponent refl (omega arith) ∙ ap (λ n. 10 ^ n) (zero-add c.args.exponent)

pub returns-clause-positive : goal.returns-clause-positive
returns-clause-positive c = rw (returns-clause-value c) (one-le-pow c.args.exponent 10 (omega arith))
