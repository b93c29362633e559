use Rattle.std.proofs.Common.{None, refl, rules}
use Rattle.prg_parser.proofs.HalfReadLemmas.{begins}
use Rattle.prg_parser.proofs.half_read.unread.Goals as goal

pub returns : goal.returns
returns c all =
    begins all c.new.result.items None c.new-2.result (search rules) refl c.new-2.ensures.parts c.new-2.ensures.lines
