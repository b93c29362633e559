use Rattle.std.proofs.Common.{◌≤◌, ◌-◌}
use Rattle.machine.specs.Pauses.{GoesTo}
use Rattle.machine.specs.Twins.{Twin}
use Rattle.run_steps.specs.World.{World}
use Rattle.operating.proofs.pieces.take_piece.Given as goal

abbrev pub invariant-loop-leg : goal.invariant-loop-leg
invariant-loop-leg g l = record {
  goes : (w : World) → Twin l.fn.verified w l.fn.banks → GoesTo l.fn.verified w l.budget l.fn.marks l.leg l.banks;
  within : l.budget ≤ l.left;
}

abbrev pub decreases-loop-leg : goal.decreases-loop-leg
decreases-loop-leg g l = l.left - l.budget
