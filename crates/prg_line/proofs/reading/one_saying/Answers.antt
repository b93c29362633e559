use Rattle.std.proofs.Common.{◌∙◌, sym}
use Rattle.prg_line.proofs.reading.one_saying.Goals as goal

pub returns : goal.returns
returns c text a b p q =
    sym (c.lines_are_read.ensures.complete text a p).1 ∙ (c.lines_are_read.ensures.complete text b q).1
