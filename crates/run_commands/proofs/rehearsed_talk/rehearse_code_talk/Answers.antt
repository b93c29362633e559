use Rattle.std.proofs.Common.{refl}
use Rattle.operating.proofs.AnswerLemmas.{on_err, unkept_none}
use Rattle.run_commands.proofs.Operated.{code_refused_over, lent_over}
use Rattle.run_commands.proofs.rehearsed_talk.rehearse_code_talk.Goals as goal

pub returns-clause-done : goal.returns-clause-done
returns-clause-done g c =
    lent_over _ c.args.job.now _ _ _ c.in_ok-verified.ensures.ok c.rehearse_accepted_talk.result
    c.rehearse_accepted_talk.ensures.done

pub returns-clause-refused : goal.returns-clause-refused
returns-clause-refused g c =
    code_refused_over _ _ _ c.rehearse_accepted_talk.ensures.counted c.args.job.now _ _ c.in_ok-verified.ensures.ok
    c.in_ok-verified.ensures.accepted c.requires.untested c.rehearse_accepted_talk.result
    c.rehearse_accepted_talk.ensures.refused

pub returns-in_err-verified-clause-unkept : goal.returns-in_err-verified-clause-unkept
returns-in_err-verified-clause-unkept g c = on_err _ _ (unkept_none _ _ _ _ refl refl)
