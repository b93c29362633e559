use Rattle.std.proofs.Common.{true, length}
use Rattle.std.specs.Fn.{FnReturnsAt}
use Rattle.std.specs.List.{Contains}
use Rattle.key_lists.specs.Order.{Each}
use Rattle.key_lists.specs.Pairs.{Pair}
use Rattle.key_lists.proofs.sorted_keys.all_hold.Given as goal

-- what holds of the rest holds of all, and the rest is among them
abbrev pub invariant-loop-entry : goal.invariant-loop-entry
invariant-loop-entry g l = record {
  all : Each (λ p. FnReturnsAt g.F.Fn l.test p true) l.rest → Each (λ p. FnReturnsAt g.F.Fn l.test p true) l.entries;
  there : (p : Pair) → Contains l.rest p → Contains l.entries p;
}

abbrev pub decreases-loop-entry : goal.decreases-loop-entry
decreases-loop-entry g l = length l.rest
