use Rattle.run_steps.proofs.Costs.{few_steps}
use Rattle.run_laws.proofs.laws.runs_cost_their_steps.Goals as goal

pub returns : goal.returns
returns c = few_steps
