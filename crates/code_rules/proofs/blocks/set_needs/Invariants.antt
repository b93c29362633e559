use Rattle.std.proofs.Common.{◌≡◌, length}
use Rattle.code_rules.specs.Places.{needed}
use Rattle.code_rules.proofs.blocks.set_needs.Given as goal

abbrev pub invariant-loop-need : goal.invariant-loop-need
invariant-loop-need l = needed l.rest l.slots ≡ needed l.needs l.fn.slots

abbrev pub decreases-loop-need : goal.decreases-loop-need
decreases-loop-need l = length l.rest
