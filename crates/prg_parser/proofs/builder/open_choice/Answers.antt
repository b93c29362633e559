use Rattle.prg_parser.proofs.BuildLemmas as by
use Rattle.prg_parser.proofs.builder.open_choice.Goals as goal

pub returns-in-Commands : goal.returns-in-Commands
returns-in-Commands c =
    by.choice_behind c.args.blocks c.args.current c.in-Commands.body c.ended_case.result c.in-Commands.is
    c.ended_case.ensures

pub returns-in-DoCase : goal.returns-in-DoCase
returns-in-DoCase c =
    λ t. by.choice_first c.args.blocks c.args.current c.in-DoCase.line c.in-DoCase.before c.new.result c.in-DoCase.is
    c.new.ensures.items
