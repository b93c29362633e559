use Rattle.std.proofs.Common.{true, take}
use Rattle.std.specs.Fn.{FnReturnsAt}
use Rattle.key_lists.specs.Order.{Each}
use Rattle.key_rows.proofs.entries.Entries.all.Given as goal

-- it holds of the entries so far
abbrev pub invariant-loop-at : goal.invariant-loop-at
invariant-loop-at g l = Each (λ p. FnReturnsAt g.F.Fn l.test p true) (take l.at l.self.items)
