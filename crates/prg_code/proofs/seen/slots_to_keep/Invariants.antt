use Rattle.std.proofs.Common.{None, length}
use Rattle.prg_code.specs.Remembering.{AreAllBut}
use Rattle.prg_code.proofs.seen.slots_to_keep.Given as goal

abbrev pub invariant-loop-last : goal.invariant-loop-last
invariant-loop-last l = AreAllBut None l.kept l.kinds

abbrev pub decreases-loop-last : goal.decreases-loop-last
decreases-loop-last l = length l.kept
