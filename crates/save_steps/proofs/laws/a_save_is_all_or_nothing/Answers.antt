use Rattle.save_steps.proofs.Stops.{all_or_nothing}
use Rattle.save_steps.proofs.laws.a_save_is_all_or_nothing.Goals as goal

pub returns : goal.returns
returns c = λ sum changes start apart ready. all_or_nothing sum changes start apart ready
