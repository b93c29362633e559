use Rattle.std.proofs.Common.{◌≤◌, ◌-◌}
use Rattle.run_steps.specs.Run.{Ran}
use Rattle.run_steps.specs.Shapes.{HasShape}
use Rattle.work_area.specs.Areas.{AreApart}
use Rattle.run_commands.proofs.testing.test_part.Given as goal

abbrev pub invariant-loop-outcome : goal.invariant-loop-outcome
invariant-loop-outcome l = record {
  ran : Ran l.fn.code l.fn.world l.budget l.outcome l.world;
  within : l.budget ≤ l.left;
  shape : HasShape l.fn.code l.world;
  apart : AreApart l.world.env.store.areas;
}

abbrev pub decreases-loop-outcome : goal.decreases-loop-outcome
decreases-loop-outcome l = l.left - l.budget
