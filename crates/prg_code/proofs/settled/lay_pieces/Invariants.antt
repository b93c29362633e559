use Rattle.prg_code.specs.Numbers.{Grows}
use Rattle.prg_code.proofs.settled.lay_pieces.Given as goal

abbrev pub invariant-loop-piece : goal.invariant-loop-piece
invariant-loop-piece l = Grows l.initial.laid.instrs.items l.laid.instrs.items
