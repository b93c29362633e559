use Rattle.prg_writer.proofs.GivingUp.{given_up_whole}
use Rattle.prg_writer.proofs.laws.rounds_are_given_up.Goals as goal

pub returns : goal.returns
returns c = given_up_whole
