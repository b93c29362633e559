use Rattle.xvalue.proofs.ReadLemmas.{as_written}
use Rattle.xvalue.proofs.laws.arguments_are_read_as_written.Goals as goal

pub returns : goal.returns
returns c settings = as_written settings
