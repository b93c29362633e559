use Rattle.std.proofs.Common.{◌≡◌, length}
use Rattle.operator_desk.specs.Held.{line_length}
use Rattle.operator_desk.proofs.typing.next_line.Given as goal

abbrev pub invariant-loop : goal.invariant-loop
invariant-loop g l = line_length l.line.items ≡ length l.line.items
