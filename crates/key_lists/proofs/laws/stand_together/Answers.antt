use Rattle.key_lists.proofs.Starts.{stand_together}
use Rattle.key_lists.proofs.laws.stand_together.Goals as goal

pub returns : goal.returns
returns c = stand_together
