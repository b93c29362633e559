use Rattle.std.proofs.Common.{length}
use Rattle.folder_shapes.proofs.reader.+used_by.Given as goal

abbrev pub decreases-used_by : goal.decreases-used_by
decreases-used_by l = length l.words.now
