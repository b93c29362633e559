use Rattle.std.proofs.Common.{◌≤◌, ◌-◌}
use Rattle.operating.specs.Pieces.{LeadsTo}
use Rattle.run_steps.specs.Shapes.{HasShape}
use Rattle.work_area.specs.Areas.{AreApart}
use Rattle.run_commands.proofs.testing.run_checked_in_parts.Given as goal

abbrev pub invariant-loop-alloc : goal.invariant-loop-alloc
invariant-loop-alloc g l = record {
  leads : LeadsTo l.fn.code l.fn.world l.steps l.world;
  within : l.steps ≤ l.budget;
  shape : HasShape l.fn.code l.world;
  apart : AreApart l.world.env.store.areas;
}

abbrev pub decreases-loop-alloc : goal.decreases-loop-alloc
decreases-loop-alloc g l = l.budget - l.steps
