use Rattle.std.proofs.Common.{map, rules}
use Rattle.code_rules.specs.Places.{block_at}
use Rattle.code_rules.proofs.BlockLists.{first_case, rest_case}
use Rattle.code_rules.proofs.blocks.block_at.Goals as goal

pub returns-then-place-block : goal.returns-then-place-block
unfolding block_at
returns-then-place-block c =
    first_case (map (λ p. p.length) c.args.code.now.procedures)
    (map (λ f. f.length) c.args.code.now.declared.filters) c.args.place c.procedure_at-block.result (search rules)
    (search rules)

pub returns : goal.returns
unfolding block_at
returns c =
    rest_case (map (λ p. p.length) c.args.code.now.procedures)
    (map (λ f. f.length) c.args.code.now.declared.filters) c.args.place c.procedure_at-block.result
    c.filter_at.result (search rules) (search rules) (search rules)
