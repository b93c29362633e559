use Rattle.prg_code.proofs.Remembering.{known_again}
use Rattle.prg_code.proofs.laws.states_are_known_again.Goals as goal

pub returns : goal.returns
returns c = known_again
