use Rattle.run_commands.proofs.Rehearsed.{rehearsed}
use Rattle.run_commands.proofs.Reported.{refused}
use Rattle.file_access.proofs.Holding.{rose_later}
use Rattle.run_commands.proofs.rehearsing.rehearse_files_watched.Goals as goal

pub returns-in-Ok-clause-done : goal.returns-in-Ok-clause-done
returns-in-Ok-clause-done g c =
    rehearsed _ _ c.in-Ok.ensures.kept _ _ c.in-Ok.ensures.found _ c.rehearse_code.ensures.done

pub returns-in-Ok-clause-refused : goal.returns-in-Ok-clause-refused
returns-in-Ok-clause-refused g c = refused _ _ c.in-Ok.ensures.kept _ _
    (rose_later _ _ _ c.in-Ok.ensures.counted c.rehearse_code.ensures.counted)
    c.args.job.now _ c.in-Ok.ensures.found _ c.rehearse_code.ensures.refused
