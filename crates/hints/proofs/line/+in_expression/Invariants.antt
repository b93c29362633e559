use Rattle.std.proofs.Common.{length}
use Rattle.hints.proofs.line.+in_expression.Given as goal

abbrev pub decreases-in_expression : goal.decreases-in_expression
decreases-in_expression l = length l.words.now
