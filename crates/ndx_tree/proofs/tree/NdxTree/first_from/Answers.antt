use Rattle.std.proofs.Common.{◌∙◌}
use Rattle.ndx_tree.proofs.Search.{from_key}
use Rattle.ndx_tree.proofs.tree.NdxTree.first_from.Goals as goal

pub returns-clause-found : goal.returns-clause-found
returns-clause-found c = c.search_from.ensures.found ∙ from_key c.args.key.now c.args.self.now.pairs
