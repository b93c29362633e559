use Rattle.std.proofs.Common.{◌≤◌, ◌-◌}
use Rattle.machine.specs.Twins.{Twin}
use Rattle.operating.specs.Parts.{IsAt}
use Rattle.run_steps.specs.World.{World}
use Rattle.operating.proofs.taking.resume_in_parts.Given as goal

abbrev pub invariant-loop-alloc : goal.invariant-loop-alloc
invariant-loop-alloc g l = record {
  at : (w : World) → Twin l.fn.verified w l.fn.banks → IsAt l.fn.verified w l.steps l.banks;
  within : l.steps ≤ l.budget;
}

abbrev pub decreases-loop-alloc : goal.decreases-loop-alloc
decreases-loop-alloc g l = l.budget - l.steps
