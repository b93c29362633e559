use Rattle.prg_parser.proofs.BuildLemmas as by
use Rattle.prg_parser.proofs.builder.end_last.Goals as goal

pub returns : goal.returns
returns c =
    λ s e m. by.block_ended c.args.blocks.now c.pop.new.self c.in-Some.block c.args.body c.args.end s
    c.in_ok-form_of.field-0 c.put.result c.in-Some.ensures.items e m c.in_ok-form_of.ensures c.put.ensures
