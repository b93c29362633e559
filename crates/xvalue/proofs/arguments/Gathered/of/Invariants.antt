use Rattle.xvalue.specs.Given.{gathered}
use Rattle.xvalue.proofs.Gathering.{Gathers}
use Rattle.xvalue.proofs.arguments.Gathered.of.Given as goal

abbrev pub invariant-loop-value : goal.invariant-loop-value
invariant-loop-value l = Gathers l.values l.value-index (gathered l.all)
