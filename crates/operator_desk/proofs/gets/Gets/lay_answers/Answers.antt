use Rattle.std.proofs.Common.{arith}
use Rattle.operator_desk.specs.Asked.{rows_gone}
use Rattle.operator_desk.proofs.LaidAnswers.{lies_to}
use Rattle.operator_desk.proofs.gets.Gets.lay_answers.Goals as goal

pub loop-answer-preserved : goal.loop-answer-preserved
loop-answer-preserved c =
    lies_to (rows_gone c.args.self.now) c.args.self.now.answers.items c.deref-answer-items.result.now
    c.loop-answer.answer-index c.answer-item.result
    c.args.rows.now c.loop-answer.rows c.lay_answer.new.rows c.deref-answer-items.ensures.value c.answer-item.is
    (omega arith) c.loop-answer.invariant c.lay_answer.ensures
