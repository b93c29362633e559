use Rattle.std.proofs.Common.{arith}
use Rattle.ndx_tree.proofs.TreeLemmas.{tree_low, tree_most}
use Rattle.ndx_tree.proofs.tree.NdxTreeKeyList.reserve_one.Goals as goal

pub height-wanted-requires : goal.height-wanted-requires
height-wanted-requires c = omega (arith, tree_low _ _ _ _ c.self.invariant.0)

pub stock-requires-clause-most : goal.stock-requires-clause-most
stock-requires-clause-most c = omega (arith, c.most.ensures, tree_most _ _ _ _ c.self.invariant.0)
