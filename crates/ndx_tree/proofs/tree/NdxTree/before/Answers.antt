use Rattle.std.proofs.Common.{ap, ◌∙◌}
use Rattle.ndx_tree.specs.Trees.{TreeView}
use Rattle.key_lists.specs.Order.{first, below}
use Rattle.key_lists.specs.Pairs.{Pair, is_before}
use Rattle.key_lists.specs.Rising.{last_below}
use Rattle.ndx_tree.proofs.Search.{last_below_is}
use Rattle.ndx_tree.proofs.tree.NdxTree.before.Goals as goal

pub returns-clause-found : goal.returns-clause-found
returns-clause-found c =
    let x : Pair = (c.args.key.now, c.args.number) in
    c.last_below.ensures.found ∙ ap (λ n. last_below (c.args.key.now, n) c.self.inside.root.pairs) c.from.ensures
    ∙ last_below_is x c.self.inside.root.pairs c.self.invariant.0.top.rising
    ∙ ap (λ (v : TreeView). first (below is_before x v.pairs)) c.self.view_is
