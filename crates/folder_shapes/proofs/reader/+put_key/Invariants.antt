use Rattle.std.proofs.Common.{length}
use Rattle.folder_shapes.proofs.reader.+put_key.Given as goal

abbrev pub decreases-put_key : goal.decreases-put_key
decreases-put_key l = length l.words.now
