use Rattle.fixed_num.proofs.RemainderLemmas.{floored_by-bounds}
use Rattle.fixed_num.proofs.laws.floors_are_below.Goals as goal

pub returns : goal.returns
returns c = floored_by-bounds
