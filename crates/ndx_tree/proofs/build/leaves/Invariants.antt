use Rattle.std.proofs.Common.{◌≡◌, ◌+◌, ◌/◌, ◌<◌, ◌≤◌, ◌++◌, length, reverse, take}
use Rattle.std.specs.Vec.{vec_len}
use Rattle.ndx_tree.specs.Pages.{AreChildren, pairs_of_pages}
use Rattle.ndx_tree.proofs.build.leaves.Given as goal

-- what is left stands before the leaves that were made
abbrev pub invariant-loop-left : goal.invariant-loop-left
invariant-loop-left l = record {
  whole : take l.left l.entries.items ++ pairs_of_pages (reverse l.row.items) ≡ l.entries.items;
  within : l.left ≤ length l.entries.items;
  level : AreChildren 1 l.most (reverse l.row.items);
  enough : 0 < l.left → l.most / 2 ≤ l.left;
  none : vec_len l.row ≡ 0 → l.most < l.left;
  two : 1 < vec_len l.row + l.left;
}

abbrev pub decreases-loop-left : goal.decreases-loop-left
decreases-loop-left l = l.left
