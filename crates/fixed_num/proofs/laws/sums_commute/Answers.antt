use Rattle.fixed_num.proofs.LawLemmas.{sum_of-comm}
use Rattle.fixed_num.proofs.laws.sums_commute.Goals as goal

pub returns : goal.returns
returns c = sum_of-comm
