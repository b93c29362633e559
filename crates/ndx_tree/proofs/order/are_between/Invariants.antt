use Rattle.std.proofs.Common.{take}
use Rattle.key_lists.specs.Order.{Each}
use Rattle.ndx_tree.specs.Reads.{IsBetween}
use Rattle.ndx_tree.proofs.order.are_between.Given as goal

abbrev pub invariant-loop-separator : goal.invariant-loop-separator
invariant-loop-separator l = Each (IsBetween l.entries.items) (take l.separator-index l.separators)
