use Rattle.xvalue.proofs.ReadLemmas.{part-taken, part-stuffed}
use Rattle.xvalue.proofs.laws.parts_are_taken_and_stuffed.Goals as goal

pub returns-clause-taken : goal.returns-clause-taken
returns-clause-taken c front part rest = part-taken front part rest

pub returns-clause-stuffed : goal.returns-clause-stuffed
returns-clause-stuffed c front part rest others = part-stuffed front part rest others
