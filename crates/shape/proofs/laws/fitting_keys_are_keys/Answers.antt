use Rattle.shape.proofs.KeyLemmas.{keys_there}
use Rattle.shape.proofs.laws.fitting_keys_are_keys.Goals as goal

pub returns : goal.returns
returns c = keys_there
