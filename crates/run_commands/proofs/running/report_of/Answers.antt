use Rattle.run_commands.proofs.Reported.{reported, stopped, refused}
use Rattle.file_access.proofs.Holding.{rose_later}
use Rattle.run_commands.proofs.running.report_of.Goals as goal

pub returns-in-Ok-clause-done : goal.returns-in-Ok-clause-done
returns-in-Ok-clause-done g c = reported _ _ _ c.in-Ok.ensures.kept _ _ c.in-Ok.ensures.found _ c.run_code.ensures.done

pub returns-in-Ok-clause-stopped : goal.returns-in-Ok-clause-stopped
returns-in-Ok-clause-stopped g c = stopped _ _ _ c.in-Ok.ensures.kept _ _
    (rose_later _ _ _ c.in-Ok.ensures.counted c.run_code.ensures.counted)
    _ _ c.in-Ok.ensures.found _ c.run_code.ensures.stopped

pub returns-in-Ok-clause-refused : goal.returns-in-Ok-clause-refused
returns-in-Ok-clause-refused g c = refused _ _ c.in-Ok.ensures.kept _ _
    (rose_later _ _ _ c.in-Ok.ensures.counted c.run_code.ensures.counted)
    c.args.job.now _ c.in-Ok.ensures.found _ c.run_code.ensures.refused
