-- What a program is to the bytes of its file.
use Rattle.std.specs.Prelude.{◌≡◌, ℕ, List, [], ◌∷◌, map, None}
use Rattle.prg_line.specs.LineSays.{LineSays}
use Rattle.prg_line.specs.Saying.{Saying, role_of}
use Rattle.prg_parser.specs.declared.judging.LineMark.{LineMark}
use Rattle.prg_parser.specs.declared.program.Program.{Program}
use Rattle.prg_parser.specs.Layout.{program_lines, said_lines}
use Rattle.prg_parser.specs.Lines.{Joined, joined_lines}
use Rattle.prg_parser.specs.Verdict.{verdict}

-- each joined line says its part
abbrev pub SaysAll : List Saying → List Joined → Type 0
SaysAll [] [] = Unit {0}
SaysAll [] (line ∷ lines) = ⊥
SaysAll (s ∷ says) [] = ⊥
SaysAll (s ∷ says) (line ∷ lines) = LineSays s line.text × SaysAll says lines

-- the numbers of joined lines
abbrev pub numbers : List Joined → List ℕ
numbers lines = map (λ line. line.first) lines

-- the mark of a line without a fault of its own
abbrev pub plain_mark : Joined → Saying → LineMark
plain_mark line s = record { line = line.first; role = role_of s; fault = None }

abbrev pub plain_marks : List Joined → List Saying → List LineMark
plain_marks [] says = []
plain_marks (line ∷ lines) [] = []
plain_marks (line ∷ lines) (s ∷ says) = plain_mark line s ∷ plain_marks lines says

-- Each line of the file says its part, and each stands where it may; no block is left open.
pub record LinesFit (bytes : List ℕ) (sayings : List Saying) : Type 0 where
  pub said : SaysAll sayings (joined_lines bytes)
  pub blocks : verdict [] None (plain_marks (joined_lines bytes) sayings) ≡ None

-- The program, laid out line by line, is what the lines of the file say, with their numbers. It has no name yet.
pub record IsProgramOf (bytes : List ℕ) (program : Program) : Type 0 where
  pub sayings : List Saying
  pub fits : LinesFit bytes sayings
  pub unnamed : program.name.items ≡ []
  pub laid_out : program_lines program ≡ said_lines (numbers (joined_lines bytes)) sayings
