use Rattle.run_commands.proofs.Rehearsed.{may_tested, rehearsed_from, refused_memory, refused_tables}
use Rattle.run_commands.proofs.rehearsing.rehearse_any.Goals as goal

pub returns-in-Ok-clause-done : goal.returns-in-Ok-clause-done
returns-in-Ok-clause-done g c =
    rehearsed_from _ c.args.job.now c.args.code.now _ _ c.code.ensures.same
    (may_tested c.args.job.now c.args.code.now c.requires) _ c.told_of.ensures.told c.in-Ok.ensures.done

pub returns-in-Ok-clause-refused : goal.returns-in-Ok-clause-refused
returns-in-Ok-clause-refused g c =
    refused_memory _ _ c.in-Ok.ensures.kept _ _ c.in-Ok.ensures.counted c.args.job.now c.args.code.now _
    c.told_of.ensures.refused

pub returns-in-Err-clause-refused : goal.returns-in-Err-clause-refused
returns-in-Err-clause-refused g c =
    refused_tables _ _ c.in-Err.ensures.kept _ _ c.in-Err.ensures.counted c.args.job.now c.args.code.now
    (may_tested c.args.job.now c.args.code.now c.requires) _ c.in-Err.ensures.refused
