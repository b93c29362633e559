use Rattle.xvalue.proofs.AnswerLemmas.{empty_answered}
use Rattle.xvalue.proofs.laws.empty_lines_keep_the_value.Goals as goal

pub returns : goal.returns
returns c old = empty_answered old
