use Rattle.std.proofs.Common.{arith}
use Rattle.ndx_tree.proofs.Keyed.{tree_keyed}
use Rattle.ndx_tree.proofs.TreeLemmas.{most_low, most_high}
use Rattle.ndx_tree.proofs.tree.NdxTree.of_rising.Goals as goal

pub root_of-requires-clause-most : goal.root_of-requires-clause-most
root_of-requires-clause-most c = (
  omega (arith, c.most_entries.ensures, most_low c.args.key_length c.requires.key_length.1),
  omega
      (arith, c.most_entries.ensures, most_high c.args.key_length),
)

pub root_of-requires-clause-keyed : goal.root_of-requires-clause-keyed
root_of-requires-clause-keyed c =
    tree_keyed c.args.key_length c.most_entries.result c.args.entries.now.items c.most_entries.ensures c.requires.keys
