use Rattle.run_laws.proofs.More.{came_more}
use Rattle.run_laws.proofs.laws.lines_behind_change_no_step.Goals as goal

pub returns : goal.returns
returns c = came_more
