use Rattle.prg_parser.proofs.BuildLemmas as by
use Rattle.prg_parser.proofs.builder.Builder.finish.Goals as goal

pub returns-clause-lines : goal.returns-clause-lines
returns-clause-lines c =
    λ e. by.all_finished c.args.self c.last_commands.result c.ended.result e c.last_commands.ensures
    c.ended.ensures.lines
