use Rattle.xvalue.proofs.KindLemmas.{kinds_same}
use Rattle.xvalue.proofs.laws.same_kinds_are_equal.Goals as goal

pub returns : goal.returns
returns c = kinds_same
