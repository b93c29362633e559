use Rattle.std.proofs.Common.{length}
use Rattle.prg_writer.proofs.calling.+name_all.Given as goal

abbrev pub decreases-name_all : goal.decreases-name_all
decreases-name_all l = length l.parameters.now
