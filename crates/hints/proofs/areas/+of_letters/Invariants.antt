use Rattle.std.proofs.Common.{length}
use Rattle.hints.proofs.areas.+of_letters.Given as goal

abbrev pub decreases-of_letters : goal.decreases-of_letters
decreases-of_letters l = length l.words.now
