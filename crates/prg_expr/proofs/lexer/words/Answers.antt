use Rattle.prg_expr.proofs.Lines.{of_scan}
use Rattle.prg_expr.proofs.lexer.words.Goals as goal

pub returns-clause-words : goal.returns-clause-words
returns-clause-words c = of_scan c.args.line.now c.cut.result c.cut.ensures
