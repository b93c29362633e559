use Rattle.std.proofs.Common.{sym, arith}
use Rattle.fixed_num.proofs.RemainderLemmas.{rest_same, rest_some, rest_zero}
use Rattle.fixed_num.proofs.laws.remainders_have_the_divisors_sign.Goals as goal

pub returns-clause-alike : goal.returns-clause-alike
returns-clause-alike c negative p q h = sym (rest_same negative p q h)

pub returns-clause-unlike : goal.returns-clause-unlike
returns-clause-unlike c negative p q h some = sym (rest_some negative p q h (λ none. omega (arith, some, none)))

pub returns-clause-none : goal.returns-clause-none
returns-clause-none c negative p q h none = rest_zero negative p q h none
