use Rattle.std.proofs.Common.{◌≡◌, replicate, None}
use Rattle.run_values.proofs.tagged.unset_slots.Given as goal

abbrev pub invariant-loop : goal.invariant-loop
invariant-loop l = l.slots.items ≡ replicate l.counter None
