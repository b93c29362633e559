use Rattle.std.proofs.Common.{◌∙◌}
use Rattle.ndx_tree.proofs.Search.{from_least}
use Rattle.ndx_tree.proofs.tree.NdxTree.first.Goals as goal

pub returns-clause-found : goal.returns-clause-found
returns-clause-found c = c.search_from.ensures.found ∙ from_least c.args.self.now.pairs
