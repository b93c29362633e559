use Rattle.run_laws.proofs.Pieces.{joined, ended}
use Rattle.run_laws.proofs.laws.pieces_make_the_whole.Goals as goal

pub returns-clause-joined : goal.returns-clause-joined
returns-clause-joined c = joined

pub returns-clause-ended : goal.returns-clause-ended
returns-clause-ended c = ended
