-- What of each line of a file decides on its fault, and what the lines say.
use Rattle.std.specs.Prelude.{ℕ, List, map}
use Rattle.prg_parser.specs.declared.judging.LineMark.{LineMark}
use Rattle.prg_parser.specs.Lines.{Joined, joined_lines}
use Rattle.prg_line.specs.Alone.{role_at, fault_at}

-- a line's number, what it is to the blocks around it, and its own fault
abbrev pub line_mark : Joined → LineMark
line_mark j = record { line = j.first; role = role_at j.text; fault = fault_at j.text }

-- the marks of a file's joined lines
abbrev pub marks : List ℕ → List LineMark
marks bytes = map line_mark (joined_lines bytes)
