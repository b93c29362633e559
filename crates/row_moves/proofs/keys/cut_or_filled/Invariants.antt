use Rattle.std.proofs.Common.{◌≡◌}
use Rattle.arrayvec.specs.ArrayVec.{array_vec_len}
use Rattle.row_moves.specs.Seeking.{cut_or_filled}
use Rattle.row_moves.proofs.keys.cut_or_filled.Given as goal

abbrev pub invariant-loop-place : goal.invariant-loop-place
invariant-loop-place l =
    record { items : l.key.items ≡ cut_or_filled l.place l.text; len : array_vec_len l.key ≡ l.place }
