use Rattle.xvalue.proofs.AnswerLemmas.{length-answered}
use Rattle.xvalue.proofs.laws.answers_keep_the_length.Goals as goal

pub returns : goal.returns
returns c old line = length-answered old line
