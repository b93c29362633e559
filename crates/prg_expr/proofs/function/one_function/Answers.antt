use Rattle.prg_expr.proofs.Cuts.{names}
use Rattle.prg_expr.proofs.function.one_function.Goals as goal

pub returns : goal.returns
returns c = names
