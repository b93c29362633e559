use Rattle.fixed_num.proofs.OrderLemmas.{compared-at}
use Rattle.fixed_num.proofs.laws.order_is_by_value.Goals as goal

pub returns : goal.returns
returns c = compared-at
