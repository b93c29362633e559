use Rattle.run_laws.proofs.Limits.{run_within}
use Rattle.run_laws.proofs.laws.runs_keep_the_limit.Goals as goal

pub returns : goal.returns
returns c = run_within
