use Rattle.std.proofs.Common.{true, false}
use Rattle.fixed_num.proofs.RoundLemmas.{rounded_signed}
use Rattle.fixed_num.proofs.laws.rounds_away_from_zero.Goals as goal

pub returns-clause-below : goal.returns-clause-below
returns-clause-below c p q h = rounded_signed true false p q h

pub returns-clause-by_one_below : goal.returns-clause-by_one_below
returns-clause-by_one_below c p q h = rounded_signed false true p q h

pub returns-clause-both_below : goal.returns-clause-both_below
returns-clause-both_below c p q h = rounded_signed true true p q h
