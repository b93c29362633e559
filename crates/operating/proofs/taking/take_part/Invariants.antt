use Rattle.std.proofs.Common.{◌≤◌, ◌-◌}
use Rattle.std.specs.Prelude.{min}
use Rattle.machine.specs.Twins.{Twin}
use Rattle.operating.specs.Parts.{RunsTo}
use Rattle.run_steps.specs.World.{World}
use Rattle.operating.proofs.taking.take_part.Given as goal

abbrev pub invariant-loop-outcome : goal.invariant-loop-outcome
invariant-loop-outcome g l = record {
  ran : (w : World) → Twin l.fn.verified w l.fn.banks → RunsTo l.fn.verified w l.budget l.outcome l.banks;
  asked : min l.most l.left ≤ l.budget;
  within : l.budget ≤ l.left;
  paid : l.outcome.steps ≤ l.budget;
}

abbrev pub decreases-loop-outcome : goal.decreases-loop-outcome
decreases-loop-outcome g l = l.left - l.budget
