use Rattle.std.proofs.Common.{take}
use Rattle.operator_desk.specs.Asked.{AnswersLie, rows_gone}
use Rattle.operator_desk.proofs.gets.Gets.lay_answers.Given as goal

abbrev pub invariant-loop-answer : goal.invariant-loop-answer
invariant-loop-answer l = AnswersLie (rows_gone l.self) (take l.answer-index l.self.answers.items) l.initial.rows l.rows
