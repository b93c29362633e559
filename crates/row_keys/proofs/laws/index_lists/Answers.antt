use Rattle.row_keys.proofs.ListLemmas.{index_lists}
use Rattle.row_keys.proofs.laws.index_lists.Goals as goal

pub returns : goal.returns
returns c = index_lists c.puts_in_order.ensures c.changes_rows.ensures
