use Rattle.xvalue.proofs.AnswerLemmas.{same_kind_answered}
use Rattle.xvalue.proofs.laws.answers_keep_the_kind.Goals as goal

pub returns : goal.returns
returns c old line = same_kind_answered old line
