use Rattle.std.proofs.Common.{refl}
use Rattle.operating.proofs.AnswerLemmas.{unkept_none}
use Rattle.run_commands.proofs.Operated.{read_over, halt_over, refused_over}
use Rattle.file_access.proofs.Holding.{rose_later}
use Rattle.run_commands.proofs.conversation.operate_read.Goals as goal

pub returns-in-Ok-clause-done : goal.returns-in-Ok-clause-done
returns-in-Ok-clause-done g c =
    read_over _ _ _ c.in-Ok.ensures.kept c.args.job.now _ _ c.in-Ok.ensures.found c.operate_code.result
    c.operate_code.ensures.done

pub returns-in-Ok-clause-stopped : goal.returns-in-Ok-clause-stopped
returns-in-Ok-clause-stopped g c = halt_over _ _ _ c.in-Ok.ensures.kept _ _
    (rose_later _ _ _ c.in-Ok.ensures.counted c.operate_code.ensures.counted)
    c.args.job.now _ _ c.in-Ok.ensures.found c.operate_code.result c.operate_code.ensures.stopped

pub returns-in-Ok-clause-refused : goal.returns-in-Ok-clause-refused
returns-in-Ok-clause-refused g c = refused_over _ _ c.in-Ok.ensures.kept _ _
    (rose_later _ _ _ c.in-Ok.ensures.counted c.operate_code.ensures.counted)
    c.args.job.now _ c.in-Ok.ensures.found c.operate_code.result c.operate_code.ensures.refused

pub returns-in-Err-clause-unkept : goal.returns-in-Err-clause-unkept
returns-in-Err-clause-unkept g c = unkept_none _ _ _ _ refl refl
