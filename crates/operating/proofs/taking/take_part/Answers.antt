use Rattle.operating.proofs.PartLemmas.{of_headline, once_more}
use Rattle.std.proofs.Common.{◌≡◌, arith}
use Rattle.run_steps.specs.declared.ending.End.TheVariants.{Spent}
use Rattle.operating.proofs.taking.take_part.Goals as goal

pub loop-outcome-init : goal.loop-outcome-init
loop-outcome-init g c = record {
  ran = λ w t. of_headline _ w _ _ _ (c.resume-outcome.ensures w t);
  asked = omega (arith, c.lesser-budget.ensures.least);
  within = c.lesser-budget.ensures.within;
  paid = (c.resume-outcome.ensures c.requires.twin.0 c.requires.twin.1).within_the_budget;
}

pub loop-outcome-preserved : goal.loop-outcome-preserved
loop-outcome-preserved g c =
    let none : c.loop-outcome.outcome.steps ≡ 0 = search in
    let spent : c.loop-outcome.outcome.end ≡ Spent = c.is_spent.ensures.spent c.if-is_spent.true in
    record {
      ran = λ w t.
          let r = c.loop-outcome.invariant.ran w t in
          once_more _ w _ _ _ _ _ _ c.parts_make_the_whole.ensures r spent none
          (of_headline _ r.world _ _ _ (c.resume-outcome-in-loop-outcome.ensures r.world r.goes_on));
      asked = omega (arith, c.loop-outcome.invariant.asked, c.wider-budget.ensures.wider);
      within = c.wider-budget.ensures.within;
      paid =
          let r = c.loop-outcome.invariant.ran c.requires.twin.0 c.requires.twin.1 in
          (c.resume-outcome-in-loop-outcome.ensures r.world r.goes_on).within_the_budget;
    }
