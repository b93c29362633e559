use Rattle.std.proofs.Common.{refl}
use Rattle.operating.proofs.AnswerLemmas.{on_err, unkept_none}
use Rattle.run_commands.proofs.Operated.{ran_over, stop_over, code_refused_over}
use Rattle.run_commands.proofs.conversation.operate_code.Goals as goal

pub returns-clause-done : goal.returns-clause-done
returns-clause-done g c =
    ran_over _ _ c.args.job.now _ _ _ c.in_ok-verified.ensures.ok c.requires.untested c.full_operation.result
    c.full_operation.ensures.done

pub returns-clause-stopped : goal.returns-clause-stopped
returns-clause-stopped g c =
    stop_over _ _ _ c.args.job.now _ _ _ c.in_ok-verified.ensures.ok c.requires.untested c.full_operation.result
    c.full_operation.ensures.stopped

pub returns-clause-refused : goal.returns-clause-refused
returns-clause-refused g c =
    code_refused_over _ _ _ c.full_operation.ensures.counted c.args.job.now _ _ c.in_ok-verified.ensures.ok
    c.in_ok-verified.ensures.accepted c.requires.untested c.full_operation.result c.full_operation.ensures.refused

pub returns-in_err-verified-clause-unkept : goal.returns-in_err-verified-clause-unkept
returns-in_err-verified-clause-unkept g c = on_err _ _ (unkept_none _ _ _ _ refl refl)
