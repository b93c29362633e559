use Rattle.prg_line.proofs.ReadLemmas.{line_says, line_placed, line_found}
use Rattle.prg_line.proofs.reading.lines_are_read.Goals as goal

pub returns-clause-sound : goal.returns-clause-sound
returns-clause-sound c = line_says c.expressions_are_read.ensures.sound c.lines_are_cut.ensures.cut

pub returns-clause-placed : goal.returns-clause-placed
returns-clause-placed c = line_placed c.expressions_are_read.ensures.sound

pub returns-clause-complete : goal.returns-clause-complete
returns-clause-complete c =
    line_found c.expressions_are_read.ensures.complete c.lines_are_cut.ensures.cut c.lines_are_cut.ensures.few
    c.one_line.ensures
