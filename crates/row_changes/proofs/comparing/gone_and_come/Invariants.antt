use Rattle.std.proofs.Common.{◌+◌, ◌≤◌, length}
use Rattle.row_changes.specs.Turns.{texts, LeadsOn}
use Rattle.row_changes.proofs.comparing.gone_and_come.Given as goal

abbrev pub invariant-loop-next : goal.invariant-loop-next
invariant-loop-next l =
    LeadsOn (texts l.before) (texts l.after) 0 0 (texts l.rest.before.now) (texts l.rest.after.now) l.rest.goes
    l.rest.comes
    × (l.rest.goes + length l.rest.before.now ≤ length l.before)
    × (l.rest.comes + length l.rest.after.now ≤ length l.after)

abbrev pub decreases-loop-next : goal.decreases-loop-next
decreases-loop-next l = length l.rest.before.now + length l.rest.after.now
