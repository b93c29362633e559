use Rattle.fixed_num.proofs.OrderLemmas.{compared-total}
use Rattle.fixed_num.proofs.laws.order_is_total.Goals as goal

pub returns : goal.returns
returns c = compared-total
