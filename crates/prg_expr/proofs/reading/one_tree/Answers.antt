use Rattle.prg_expr.proofs.Read.{one_tree}
use Rattle.prg_expr.proofs.reading.one_tree.Goals as goal

pub returns : goal.returns
returns c = one_tree
