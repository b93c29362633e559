use Rattle.std.proofs.Common.{◌≡◌, ℕ, ◌+◌, true, length}
use Rattle.std.specs.Fn.{FnReturnsAt}
use Rattle.std.specs.List.{Contains}
use Rattle.key_lists.specs.Order.{Each}
use Rattle.key_lists.specs.Pairs.{Pair}
use Rattle.ndx_tree.specs.Pages.{AreChildren, pairs_of_pages}
use Rattle.ndx_tree.proofs.page.TreePage.+all.Given as goal

abbrev pub decreases-all : goal.decreases-all
decreases-all g l = goal.size-all g l

-- the rest are children; what holds of their pairs holds of all, and their pairs are among these
abbrev pub invariant-loop-child : goal.invariant-loop-child
invariant-loop-child g l = record {
  children : (h : ℕ) × (most : ℕ) × (l.self.height ≡ h + 1) × AreChildren h most l.rest;
  all : Each (λ p. FnReturnsAt g.F.Fn l.test p true) (pairs_of_pages l.rest)
      → Each (λ p. FnReturnsAt g.F.Fn l.test p true) l.self.pairs;
  there : (p : Pair) → Contains (pairs_of_pages l.rest) p → Contains l.self.pairs p;
}

abbrev pub decreases-loop-child : goal.decreases-loop-child
decreases-loop-child g l = length l.rest
