use Rattle.std.proofs.Common.{◌≡◌, length}
use Rattle.shape.specs.Lists.{numbers_differ}
use Rattle.shape.proofs.lists.differ.Given as goal

abbrev pub invariant-loop-number : goal.invariant-loop-number
invariant-loop-number l = numbers_differ l.rest ≡ numbers_differ l.numbers

abbrev pub decreases-loop-number : goal.decreases-loop-number
decreases-loop-number l = length l.rest
