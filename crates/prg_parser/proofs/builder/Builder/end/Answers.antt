use Rattle.prg_parser.proofs.BuildLemmas as by
use Rattle.prg_parser.proofs.builder.Builder.end.Goals as goal

pub returns-in_ok-commands-in-Commands : goal.returns-in_ok-commands-in-Commands
returns-in_ok-commands-in-Commands c =
    λ s e f. by.ended_last c.args.self c.end_last.new.blocks c.in-Commands.body c.in_ok-commands-in-Commands.commands
    c.args.line s c.in-Commands.is e f (c.in_ok-commands-in-Commands.ensures s e)

pub returns-in_ok-commands-in-DoCase : goal.returns-in_ok-commands-in-DoCase
returns-in_ok-commands-in-DoCase c =
    λ s e f. by.ended_choice c.args.self c.in-DoCase.opening c.in-DoCase.before c.in_ok-commands-in-DoCase.commands
    c.new.result c.case_of-form.result c.args.line s c.in-DoCase.is e f c.new.ensures.items c.case_of-form.ensures
    c.in_ok-commands-in-DoCase.ensures
