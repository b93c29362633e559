use Rattle.std.proofs.Common.{refl}
use Rattle.prg_expr.proofs.Front.{front_sound, front_complete}
use Rattle.prg_expr.proofs.reading.expressions_are_read.Goals as goal

pub returns-clause-sound : goal.returns-clause-sound
returns-clause-sound c ws rest e h = front_sound ws (e, rest) h

pub returns-clause-complete : goal.returns-clause-complete
returns-clause-complete c ws rest e s f = front_complete _ ws rest e s f refl
