use Rattle.std.proofs.Common.{ap, sym, ◌∙◌}
use Rattle.std.proofs.Common.{reverse}
use Rattle.ndx_tree.specs.Trees.{TreeView}
use Rattle.key_lists.specs.Order.{first}
use Rattle.ndx_tree.proofs.Search.{last_reverse}
use Rattle.ndx_tree.proofs.tree.NdxTree.last.Goals as goal

pub returns-clause-found : goal.returns-clause-found
returns-clause-found c = sym c.last_pair.ensures.found ∙ last_reverse c.self.inside.root.pairs
    ∙ ap (λ (v : TreeView). first (reverse v.pairs)) c.self.view_is
