use Rattle.std.proofs.Common.{arith}
use Rattle.ndx_tree.proofs.TreeLemmas.{tree_low}
use Rattle.ndx_tree.proofs.tree.NdxTree.height.Goals as goal

pub height-requires : goal.height-requires
height-requires c = omega (arith, tree_low _ _ _ _ c.self.invariant.0)

pub returns-clause-low : goal.returns-clause-low
returns-clause-low c = omega (arith, tree_low _ _ _ _ c.self.invariant.0)
