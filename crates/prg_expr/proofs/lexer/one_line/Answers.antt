use Rattle.prg_expr.proofs.Lines.{one_line}
use Rattle.prg_expr.proofs.lexer.one_line.Goals as goal

pub returns : goal.returns
returns c = one_line
