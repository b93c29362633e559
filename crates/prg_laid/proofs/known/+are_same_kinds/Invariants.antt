use Rattle.std.proofs.Common.{length}
use Rattle.prg_laid.proofs.known.+are_same_kinds.Given as goal

abbrev pub decreases-are_same_kinds : goal.decreases-are_same_kinds
decreases-are_same_kinds l = length l.one.now
