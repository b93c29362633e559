use Rattle.std.proofs.Common.{length}
use Rattle.compile_commands.proofs.sources.stem.Given as goal

abbrev pub decreases-loop-rest : goal.decreases-loop-rest
decreases-loop-rest l = length l.rest
