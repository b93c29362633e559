use Rattle.operating.proofs.PartLemmas.{ran_wider}
use Rattle.operating.proofs.laws.greater_budgets_change_no_end.Goals as goal

pub returns : goal.returns
returns c = ran_wider
