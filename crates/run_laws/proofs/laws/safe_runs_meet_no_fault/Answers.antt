use Rattle.run_laws.proofs.Safe.{steps_well, run_ends_well}
use Rattle.run_laws.proofs.laws.safe_runs_meet_no_fault.Goals as goal

pub returns : goal.returns
returns c = record { steps = steps_well; end = run_ends_well }
