use Rattle.prg_writer.proofs.Naming.{handed_on}
use Rattle.prg_writer.proofs.calling.names_in.Goals as goal

pub returns : goal.returns
returns c = handed_on c.args.parameters.now c.args.slots.now _ _ _ c.in_ok-names.ensures c.in_ok-name_all.ensures
