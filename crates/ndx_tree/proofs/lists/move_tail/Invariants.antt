use Rattle.std.proofs.Common.{◌≡◌, ◌+◌, ◌≤◌, ◌++◌, reverse}
use Rattle.std.specs.Vec.{vec_capacity, vec_len}
use Rattle.ndx_tree.proofs.lists.move_tail.Given as goal

abbrev pub invariant-loop-from : goal.invariant-loop-from
invariant-loop-from g l = record {
  all : l.from.items ++ reverse l.to.items ≡ l.fn.from.items;
  left : l.at ≤ vec_len l.from;
  room : vec_len l.from + vec_len l.to ≤ l.at + vec_capacity l.to;
  kept_capacity : vec_capacity l.fn.from ≤ vec_capacity l.from;
  capacity : vec_capacity l.fn.to ≤ vec_capacity l.to;
}

abbrev pub decreases-loop-from : goal.decreases-loop-from
decreases-loop-from g l = goal.left-loop-from g l
