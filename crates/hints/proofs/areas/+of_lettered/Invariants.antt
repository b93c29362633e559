use Rattle.std.proofs.Common.{length}
use Rattle.hints.proofs.areas.+of_lettered.Given as goal

abbrev pub decreases-of_lettered : goal.decreases-of_lettered
decreases-of_lettered l = length l.words.now
