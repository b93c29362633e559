use Rattle.std.proofs.Common.{length}
use Rattle.hints.proofs.areas.+asks_by_name.Given as goal

abbrev pub decreases-asks_by_name : goal.decreases-asks_by_name
decreases-asks_by_name l = length l.words.now
