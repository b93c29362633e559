use Rattle.operating.proofs.AnswerLemmas.{kept_all, kept_untold, on_err}
use Rattle.operating.proofs.TurnLemmas.{talked_more, taken_is}
use Rattle.operating.proofs.talking.answer.Goals as goal

pub returns-in-Some-clause-turned : goal.returns-in-Some-clause-turned
returns-in-Some-clause-turned g c = λ store today t.
    let took = taken_is _ _ _ _ _ _ c.in-Some.longer c.in_ok-taken.taken c.in-Some.is c.in_ok-taken.ensures.took in
    talked_more _ store today _ _ took.0 _ _ _
    (record {
      more = c.lines_behind_change_no_step.ensures;
      twins = c.banks_go_on.ensures.more;
      join = c.texts_join_at_line_ends.ensures.lines;
      ends = c.texts_join_at_line_ends.ensures.ended;
      line = c.texts_join_at_line_ends.ensures.line;
    }) c.requires.out took.1 took.2 t

pub returns-in_err-outcome-in-None-clause-unkept : goal.returns-in_err-outcome-in-None-clause-unkept
returns-in_err-outcome-in-None-clause-unkept g c =
    on_err c.from_residual-in_err-outcome-in-None.result _
    (kept_all _ _ _ _ (kept_untold _ _ _ _ _ c.in_ok-taken.ensures.kept c.run_out.ensures.untold))
