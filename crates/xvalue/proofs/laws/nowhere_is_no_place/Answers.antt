use Rattle.xvalue.specs.Texts.{first_place}
use Rattle.xvalue.proofs.OrderLemmas.{nowhere-none, zero-none, false-none}
use Rattle.xvalue.proofs.laws.nowhere_is_no_place.Goals as goal

pub returns-clause-nowhere : goal.returns-clause-nowhere
returns-clause-nowhere c part cs = nowhere-none part cs

pub returns-clause-zero : goal.returns-clause-zero
returns-clause-zero c part cs = zero-none (first_place part cs)

pub returns-clause-inside : goal.returns-clause-inside
returns-clause-inside c part cs = false-none (first_place part cs)
