use Rattle.run_laws.proofs.Costs.{steps_within}
use Rattle.run_laws.proofs.laws.runs_make_few_steps.Goals as goal

pub returns : goal.returns
returns c = steps_within
