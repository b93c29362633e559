use Rattle.xvalue.proofs.ShownLemmas.{length-without, length-with}
use Rattle.xvalue.proofs.laws.dates_have_their_length.Goals as goal

pub returns-clause-off : goal.returns-clause-off
returns-clause-off c settings date e = length-without settings date e

pub returns-clause-on : goal.returns-clause-on
returns-clause-on c settings date e = length-with settings date e
