use Rattle.std.proofs.Common.{length}
use Rattle.hints.proofs.line.+has_index_word.Given as goal

abbrev pub decreases-has_index_word : goal.decreases-has_index_word
decreases-has_index_word l = length l.words.now
