use Rattle.std.proofs.Common.{refl}
use Rattle.operating.proofs.AnswerLemmas.{unkept_none}
use Rattle.run_commands.proofs.Operated.{of_talk, rehearsal_over, refused_over}
use Rattle.file_access.proofs.Holding.{rose_later}
use Rattle.run_commands.proofs.rehearsed_talk.rehearse_talk.Goals as goal

pub returns-in-Ok-clause-done : goal.returns-in-Ok-clause-done
returns-in-Ok-clause-done g c =
    rehearsal_over _ _ c.in-Ok.ensures.kept c.args.job.now _ _ c.in-Ok.ensures.found c.rehearse_code_talk.result
    c.rehearse_code_talk.ensures.done

pub returns-in-Ok-clause-refused : goal.returns-in-Ok-clause-refused
returns-in-Ok-clause-refused g c = of_talk _ c.args.job.now.input.now c.args.most c.rehearse_code_talk.result
    (refused_over _ _ c.in-Ok.ensures.kept _ _
    (rose_later _ _ _ c.in-Ok.ensures.counted c.rehearse_code_talk.ensures.counted)
    c.args.job.now _ c.in-Ok.ensures.found c.rehearse_code_talk.result c.rehearse_code_talk.ensures.refused)

pub returns-then-not-can_go_on-clause-unkept : goal.returns-then-not-can_go_on-clause-unkept
returns-then-not-can_go_on-clause-unkept g c = unkept_none _ _ _ _ refl refl

pub returns-in-Err-clause-unkept : goal.returns-in-Err-clause-unkept
returns-in-Err-clause-unkept g c = unkept_none _ _ _ _ refl refl
