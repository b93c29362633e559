use Rattle.std.proofs.Common.{◌≡◌}
use Rattle.run_commands.proofs.TestedParts.{ran_once_more}
use Rattle.run_steps.specs.declared.ending.End.TheVariants.{Spent}
use Rattle.run_commands.proofs.testing.test_part.Goals as goal

pub loop-outcome-preserved : goal.loop-outcome-preserved
loop-outcome-preserved c =
    let none : c.loop-outcome.outcome.steps ≡ 0 = search in
    let spent : c.loop-outcome.outcome.end ≡ Spent = c.is_spent.ensures.spent c.if-is_spent.true in
    let next = c.run_checked-outcome-in-loop-outcome.ensures in
    record {
      ran =
          ran_once_more _ _ _ _ _ _ _ _ c.parts_make_the_whole.ensures c.loop-outcome.invariant.ran spent none next.ran;
      within = c.wider-budget.ensures.within;
      shape = next.shape;
      apart = next.apart;
    }
