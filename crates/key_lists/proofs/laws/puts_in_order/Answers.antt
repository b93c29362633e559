use Rattle.key_lists.proofs.LawLemmas.{puts_in_order}
use Rattle.key_lists.proofs.laws.puts_in_order.Goals as goal

pub returns : goal.returns
returns c = puts_in_order
