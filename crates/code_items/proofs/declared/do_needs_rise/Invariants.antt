use Rattle.std.proofs.Common.{◌≡◌, length}
use Rattle.code_items.specs.Declarations.{needs_rise}
use Rattle.code_items.proofs.declared.do_needs_rise.Given as goal

abbrev pub invariant-loop-need : goal.invariant-loop-need
invariant-loop-need l = needs_rise l.from l.slots l.rest ≡ needs_rise l.least l.slots l.needs

abbrev pub decreases-loop-need : goal.decreases-loop-need
decreases-loop-need l = length l.rest
