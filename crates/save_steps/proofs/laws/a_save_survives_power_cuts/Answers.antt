use Rattle.save_steps.proofs.Ending.{survives}
use Rattle.save_steps.proofs.laws.a_save_survives_power_cuts.Goals as goal

pub returns : goal.returns
returns c = λ sum changes d apart ready rest. survives sum changes apart d ready rest
