use Rattle.std.proofs.Common.{◌≡◌, ◌≤◌, ◌+◌, ◌*◌, length}
use Rattle.code_items.specs.Legal.{places_of}
use Rattle.code_items.proofs.code.places_of_blocks.Given as goal

abbrev pub invariant-loop-procedure : goal.invariant-loop-procedure
invariant-loop-procedure l = (l.places + places_of l.rest ≡ places_of l.procedures)
    × (l.places + 65536 * length l.rest ≤ 16777216)

abbrev pub decreases-loop-procedure : goal.decreases-loop-procedure
decreases-loop-procedure l = length l.rest
