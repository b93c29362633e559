use Rattle.std.proofs.Common.{◌≡◌, replicate, None}
use Rattle.prg_code.proofs.block.free_slots.Given as goal

abbrev pub invariant-loop : goal.invariant-loop
invariant-loop l = l.slots.items ≡ replicate l.counter None
