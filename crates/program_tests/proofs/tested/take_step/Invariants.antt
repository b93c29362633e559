use Rattle.run_steps.specs.Shapes.{HasShape}
use Rattle.work_area.specs.Areas.{AreApart}
use Rattle.program_tests.proofs.tested.take_step.Given as goal

abbrev pub invariant-loop-piece : goal.invariant-loop-piece
invariant-loop-piece l = record {
  shape : HasShape l.code l.world;
  apart : AreApart l.world.env.store.areas;
}
