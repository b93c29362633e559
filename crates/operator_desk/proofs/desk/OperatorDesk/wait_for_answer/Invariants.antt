use Rattle.std.proofs.Common.{◌≡◌}
use Rattle.operator_desk.proofs.desk.OperatorDesk.wait_for_answer.Given as goal

abbrev pub invariant-loop : goal.invariant-loop
invariant-loop g l = record {
  answers : l.self.answers ≡ l.fn.self.answers;
  gets : l.self.gets ≡ l.fn.self.gets;
  manner : l.self.manner ≡ l.fn.self.manner;
}
