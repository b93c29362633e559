use Rattle.std.proofs.Common.{◌≡◌, map, take}
use Rattle.operator_desk.specs.Asked.{is_looked_at}
use Rattle.operator_desk.proofs.gets.marks_of.Given as goal

abbrev pub invariant-loop-instr : goal.invariant-loop-instr
invariant-loop-instr l = l.marks.items ≡ map is_looked_at (take l.instr-index l.instrs)
