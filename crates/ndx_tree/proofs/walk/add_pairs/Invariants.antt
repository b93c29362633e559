use Rattle.std.proofs.Common.{◌+◌, ◌≡◌, ◌++◌, length, take}
use Rattle.ndx_tree.specs.IndexFile.{leaf_pairs}
use Rattle.ndx_tree.proofs.walk.add_pairs.Given as goal

abbrev pub invariant-loop-entry : goal.invariant-loop-entry
invariant-loop-entry l = record {
  items : l.pairs.items ≡ l.fn.pairs.items ++ leaf_pairs (take l.entry-index l.entries);
  few : length l.pairs.items ≡ length l.fn.pairs.items + l.entry-index;
}
