use Rattle.key_lists.proofs.KeyOrder.{orders_pairs}
use Rattle.key_lists.proofs.laws.orders_pairs.Goals as goal

pub returns : goal.returns
returns c = orders_pairs
