use Rattle.std.proofs.Common.{◌≡◌, length}
use Rattle.row_moves.specs.Moves.{is_all_blanks}
use Rattle.row_moves.proofs.keys.is_blank.Given as goal

abbrev pub invariant-loop-rest : goal.invariant-loop-rest
invariant-loop-rest l = is_all_blanks l.rest ≡ is_all_blanks l.text

abbrev pub decreases-loop-rest : goal.decreases-loop-rest
decreases-loop-rest l = length l.rest
