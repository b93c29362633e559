use Rattle.xvalue.proofs.OrderLemmas.{is_before-self}
use Rattle.xvalue.proofs.laws.order_is_strict.Goals as goal

pub returns : goal.returns
returns c cs = is_before-self cs
