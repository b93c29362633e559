use Rattle.run_laws.proofs.Budgets.{one_world}
use Rattle.run_laws.proofs.laws.spent_budgets_lead_to_one_world.Goals as goal

pub returns : goal.returns
returns c = one_world
