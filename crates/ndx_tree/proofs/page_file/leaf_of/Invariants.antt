use Rattle.std.proofs.Common.{◌≡◌, take, length}
use Rattle.key_lists.specs.Order.{Each}
use Rattle.ndx_tree.specs.IndexFile.{leaf_pairs}
use Rattle.ndx_tree.proofs.page_file.leaf_of.Given as goal

abbrev pub invariant-loop-at : goal.invariant-loop-at
invariant-loop-at l = record {
  pairs : leaf_pairs l.page.entries.items ≡ take l.at l.entries.items;
  children : Each (λ e. e.child ≡ 0) l.page.entries.items;
  last : l.page.last ≡ 0;
  count : length l.page.entries.items ≡ l.at;
}
