-- What a joined line stands for.

use Rattle.prg_parser.specs.declared.lines.JoinedLine.{JoinedLine}
use Rattle.prg_parser.specs.Lines.{Joined}

abbrev pub joined_of : JoinedLine → Joined
joined_of line = record { first = line.first; text = line.text.items }
