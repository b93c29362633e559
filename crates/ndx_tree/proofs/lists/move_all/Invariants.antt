use Rattle.std.proofs.Common.{◌≡◌, ◌+◌, ◌≤◌, ◌++◌, reverse}
use Rattle.std.specs.Vec.{vec_capacity, vec_len}
use Rattle.ndx_tree.proofs.lists.move_all.Given as goal

abbrev pub invariant-loop-item : goal.invariant-loop-item
invariant-loop-item g l = record {
  all : l.to.items ++ reverse l.from.items ≡ l.fn.to.items ++ l.fn.from.items;
  room : vec_len l.to + vec_len l.from ≤ vec_capacity l.to;
  kept_capacity : vec_capacity l.fn.from ≤ vec_capacity l.from;
  capacity : vec_capacity l.fn.to ≤ vec_capacity l.to;
}

abbrev pub decreases-loop-item : goal.decreases-loop-item
decreases-loop-item g l = vec_len l.from
