use Rattle.std.proofs.Common.{length}
use Rattle.prg_expr.specs.Word.{words}
use Rattle.prg_expr.proofs.Scan.{SoFar}
use Rattle.prg_expr.proofs.lexer.cut.Given as goal

abbrev pub invariant-loop-b : goal.invariant-loop-b
invariant-loop-b l = SoFar l.line (words l.words.items) l.fault l.rest

abbrev pub decreases-loop-b : goal.decreases-loop-b
decreases-loop-b l = length l.rest
