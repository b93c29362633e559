use Rattle.std.proofs.Common.{length}
use Rattle.hints.proofs.line.+by_clause.Given as goal

abbrev pub decreases-by_clause : goal.decreases-by_clause
decreases-by_clause l = length l.words.now
