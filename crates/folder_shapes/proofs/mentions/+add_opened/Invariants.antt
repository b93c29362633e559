use Rattle.std.proofs.Common.{length}
use Rattle.folder_shapes.proofs.mentions.+add_opened.Given as goal

abbrev pub decreases-add_opened : goal.decreases-add_opened
decreases-add_opened l = length l.names.now
