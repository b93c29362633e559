use Rattle.ndx_tree.proofs.FileLemmas.{one_list}
use Rattle.ndx_tree.proofs.laws.holds_one_list.Goals as goal

pub returns : goal.returns
returns c = one_list c.pages_are_told.ensures c.heads_are_told.ensures
