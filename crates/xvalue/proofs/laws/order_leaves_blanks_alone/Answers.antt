use Rattle.xvalue.proofs.OrderLemmas.{neither-same}
use Rattle.xvalue.proofs.laws.order_leaves_blanks_alone.Goals as goal

pub returns : goal.returns
returns c cs ds = neither-same cs ds
