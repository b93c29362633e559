use Rattle.fixed_num.proofs.LawLemmas.{rounded_to-twice}
use Rattle.fixed_num.proofs.laws.rounds_once.Goals as goal

pub returns : goal.returns
returns c = rounded_to-twice
