use Rattle.journal_steps.proofs.Sessions.{kept_and_saved_once}
use Rattle.journal_steps.proofs.laws.nothing_typed_is_lost.Goals as goal

pub returns : goal.returns
returns c = λ visits clean. kept_and_saved_once visits clean
