use Rattle.std.proofs.Common.{take, ◌<◌}
use Rattle.key_lists.specs.Rising.{IsRising}
use Rattle.ndx_tree.proofs.order.is_rising.Given as goal

abbrev pub invariant-loop-index : goal.invariant-loop-index
invariant-loop-index l = record { rising : IsRising (take l.index l.entries.items); some : 0 < l.index }
