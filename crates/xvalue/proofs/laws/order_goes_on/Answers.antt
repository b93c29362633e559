use Rattle.xvalue.proofs.OrderLemmas.{is_before-goes_on}
use Rattle.xvalue.proofs.laws.order_goes_on.Goals as goal

pub returns : goal.returns
returns c cs ds es e f = is_before-goes_on cs ds es e f
