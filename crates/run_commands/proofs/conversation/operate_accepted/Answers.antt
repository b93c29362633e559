use Rattle.operating.proofs.AnswerLemmas.{kept_all, on_err}
use Rattle.run_commands.proofs.Operated.{sound_over}
use Rattle.run_commands.proofs.conversation.operate_accepted.Goals as goal

pub returns-clause-done : goal.returns-clause-done
returns-clause-done g c =
    sound_over _ _ _ _ _ _ _ _ c.in_ok-talk.ensures.comes_to c.in_ok-rows.ensures c.day-day.ensures

pub returns-in_err-rows-clause-unkept : goal.returns-in_err-rows-clause-unkept
returns-in_err-rows-clause-unkept g c = on_err _ _ (kept_all _ _ _ _ c.in_ok-talk.ensures.kept)
