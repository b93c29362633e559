use Rattle.prg_code.proofs.Meeting.{merges}
use Rattle.prg_code.proofs.laws.ways_merge.Goals as goal

pub returns : goal.returns
returns c = merges
