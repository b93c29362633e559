use Rattle.fit_laws.proofs.Clear.{is_clear}
use Rattle.fit_laws.proofs.laws.kept_rules_leave_no_fault.Goals as goal

pub returns : goal.returns
returns c = is_clear
