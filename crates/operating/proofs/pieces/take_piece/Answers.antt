use Rattle.std.proofs.Common.{◌≡◌, ◌∙◌, ap, subst, true, false}
use Rattle.machine.specs.Pauses.{GoesTo}
use Rattle.operating.proofs.PieceLemmas.{ended, marked, once_more, waits}
use Rattle.run_steps.specs.declared.pausing.Leg.{Leg}
use Rattle.run_steps.specs.declared.pausing.Leg.TheVariants.{Ended}
use Rattle.operating.proofs.pieces.take_piece.Goals as goal

pub loop-leg-preserved : goal.loop-leg-preserved
loop-leg-preserved g c =
    let stuck : c.is_stuck.result ≡ true = search in
    record {
      goes = λ w t. once_more _ w _ _ _ _ _ _ _ c.runs_cost_their_steps.ensures (c.is_stuck.ensures.stuck stuck)
          (c.loop-leg.invariant.goes w t) (λ v tv. c.resume_to_line-leg-in-loop-leg.ensures v tv);
      within = c.wider-budget.ensures.within;
    }

pub returns-in-Ended-clause-goes : goal.returns-in-Ended-clause-goes
returns-in-Ended-clause-goes g c = λ w t.
    let free : c.is_stuck.result ≡ false = search in
    ended _ w _ _ c.args.marks.now c.in-Ended.outcome c.end_of.result _ c.greater_budgets_change_no_end.ensures
    c.loop-leg.invariant.within
    (λ less e. c.is_stuck.ensures.other free less (c.in-Ended.is ∙ ap Ended e)) c.end_of.ensures
    (subst (λ (l : Leg). GoesTo c.args.verified.now w c.loop-leg.budget c.args.marks.now l c.loop-leg.banks)
    c.in-Ended.is (c.loop-leg.invariant.goes w t))

pub returns-in-Waits-clause-goes : goal.returns-in-Waits-clause-goes
returns-in-Waits-clause-goes g c = λ w t.
    waits _ w _ _ _ c.args.marks.now _ c.loop-leg.invariant.within
    (subst (λ (l : Leg). GoesTo c.args.verified.now w c.loop-leg.budget c.args.marks.now l c.loop-leg.banks)
    c.in-Waits.is (c.loop-leg.invariant.goes w t))

pub returns-in-Marked-clause-goes : goal.returns-in-Marked-clause-goes
returns-in-Marked-clause-goes g c = λ w t.
    marked _ w _ _ _ c.args.marks.now _ c.loop-leg.invariant.within
    (subst (λ (l : Leg). GoesTo c.args.verified.now w c.loop-leg.budget c.args.marks.now l c.loop-leg.banks)
    c.in-Marked.is (c.loop-leg.invariant.goes w t))
