use Rattle.std.proofs.Common.{sym, ap, ◌∙◌}
use Rattle.prg_parser.specs.Commands.{program_of}
use Rattle.prg_parser.specs.Files.{numbers}
use Rattle.prg_parser.specs.Layout.{said_lines}
use Rattle.prg_parser.specs.Lines.{joined_lines}
use Rattle.prg_parser.proofs.OneProgram.{same_program, same_sayings}
use Rattle.prg_parser.proofs.parsing.one_program.Goals as goal

pub returns-clause-same : goal.returns-clause-same
returns-clause-same c = same_program

pub returns-clause-one : goal.returns-clause-one
returns-clause-one c bytes a b p q =
    same_program (program_of a) (program_of b)
    (p.laid_out ∙ ap (said_lines (numbers (joined_lines bytes)))
    (same_sayings c.one_saying.ensures (joined_lines bytes) p.sayings q.sayings p.fits.said q.fits.said)
    ∙ sym q.laid_out)
