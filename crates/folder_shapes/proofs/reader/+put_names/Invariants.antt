use Rattle.std.proofs.Common.{length}
use Rattle.folder_shapes.proofs.reader.+put_names.Given as goal

abbrev pub decreases-put_names : goal.decreases-put_names
decreases-put_names l = length l.words.now
