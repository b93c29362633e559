use Rattle.fixed_num.proofs.LawLemmas.{IsNearest-nearest}
use Rattle.fixed_num.proofs.laws.rounds_to_the_nearest.Goals as goal

pub returns : goal.returns
returns c = IsNearest-nearest
