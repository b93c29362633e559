use Rattle.prg_parser.proofs.BuildLemmas as by
use Rattle.prg_parser.proofs.builder.ended.Goals as goal

pub returns-in_ok-push-in-Main-clause-lines : goal.returns-in_ok-push-in-Main-clause-lines
returns-in_ok-push-in-Main-clause-lines c =
    by.procedure_ended c.args.finished c.in-Main.main c.in-Main.procedures c.push.new.self c.in-Main.line c.in-Main.name
    c.args.body c.in-Main.is c.in_ok-push-in-Main.ensures.items
