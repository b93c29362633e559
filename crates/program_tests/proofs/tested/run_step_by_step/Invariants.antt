use Rattle.run_steps.specs.Shapes.{HasShape}
use Rattle.work_area.specs.Areas.{AreApart}
use Rattle.program_tests.proofs.tested.run_step_by_step.Given as goal

abbrev pub invariant-loop : goal.invariant-loop
invariant-loop l = record {
  shape : HasShape l.code l.world;
  apart : AreApart l.world.env.store.areas;
}
