use Rattle.std.proofs.Common.{length}
use Rattle.code_items.specs.declared.desk.AreaState.TheVariants.{Closed}
use Rattle.prg_code.specs.Remembering.{AreAllBut}
use Rattle.prg_code.proofs.seen.areas_to_keep.Given as goal

abbrev pub invariant-loop-last : goal.invariant-loop-last
invariant-loop-last l = AreAllBut Closed l.kept l.areas

abbrev pub decreases-loop-last : goal.decreases-loop-last
decreases-loop-last l = length l.kept
