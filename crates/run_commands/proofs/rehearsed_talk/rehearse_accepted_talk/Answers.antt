use Rattle.run_commands.proofs.Operated.{rehearsed_over}
use Rattle.run_commands.proofs.rehearsed_talk.rehearse_accepted_talk.Goals as goal

pub returns-in-Ok-clause-done : goal.returns-in-Ok-clause-done
returns-in-Ok-clause-done g c =
    rehearsed_over _ _ _ _ _ _ c.code.ensures.same c.code.ensures.accepted c.requires.untested _ c.in-Ok.ensures.told
    c.in_ok-done.ensures.done
