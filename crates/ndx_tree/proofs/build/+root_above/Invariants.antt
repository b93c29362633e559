use Rattle.std.specs.Vec.{vec_len}
use Rattle.ndx_tree.proofs.build.+root_above.Given as goal

abbrev pub decreases-root_above : goal.decreases-root_above
decreases-root_above l = vec_len l.row
