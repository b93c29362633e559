use Rattle.prg_code.specs.Numbers.{Grows}
use Rattle.prg_code.proofs.settled.put_return.Given as goal

abbrev pub invariant-loop-slot : goal.invariant-loop-slot
invariant-loop-slot l = Grows l.initial.instrs.items l.instrs.items
