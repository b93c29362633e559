-- The lines of a program: a tree of commands laid out line by line.
use Rattle.std.specs.Prelude.{ℕ, List, [], ◌∷◌, ◌++◌, map, Option}
use Rattle.prg_parser.specs.declared.command.Command.{Command}
use Rattle.prg_parser.specs.declared.command.Case.{Case}
use Rattle.prg_parser.specs.declared.command.Branch.{Branch}
use Rattle.prg_parser.specs.declared.command.Form.{Form}
use Rattle.prg_parser.specs.declared.program.Procedure.{Procedure}
use Rattle.prg_parser.specs.declared.program.Program.{Program}
use Rattle.prg_parser.specs.Commands.{Cmd, Cmds, Cases, Part, ProcedureTree, ProgramTree, form_command, part_of}
use Rattle.prg_parser.specs.Commands.{case_of}
use Rattle.prg_parser.specs.Commands.{command_of, commands_of, cases_of, procedure_of, program_of}
use Rattle.prg_parser.specs.Commands as tree
use Rattle.prg_line.specs.Saying.{Saying, Line, line}
use Rattle.prg_line.specs.Saying as saying

abbrev pub Lines : Type 0
Lines = List Line

-- lines one after another
abbrev pub all_of : List Lines → Lines
all_of [] = []
all_of (ls ∷ others) = ls ++ all_of others

abbrev mutual
  -- the lines of a command
  pub laid : Cmd → Lines
  laid (tree.Single n s) = line n (saying.Whole s) ∷ []
  laid (tree.If n e then otherwise end) =
      line n (saying.If e) ∷ (laid_in_turn then ++ (laid_part saying.Else otherwise ++ line end saying.EndIf ∷ []))
  laid (tree.DoCase n cases otherwise end) = line n saying.DoCase
      ∷ (laid_cases cases ++ (laid_part saying.Otherwise otherwise ++ line end saying.EndCase ∷ []))
  laid (tree.DoWhile n e body end) = line n (saying.DoWhile e) ∷ (laid_in_turn body ++ line end saying.EndDo ∷ [])
  laid (tree.Scan n e body end) = line n (saying.Scan e) ∷ (laid_in_turn body ++ line end saying.EndScan ∷ [])

  -- the lines of commands one after another
  pub laid_in_turn : Cmds → Lines
  laid_in_turn tree.Done = []
  laid_in_turn (tree.Then c cs) = laid c ++ laid_in_turn cs

  pub laid_cases : Cases → Lines
  laid_cases tree.Neither = []
  laid_cases (tree.When n e body others) = (line n (saying.Case e) ∷ laid_in_turn body) ++ laid_cases others

  -- the lines of a part that begins with this word, if there is one
  pub laid_part : Saying → Part → Lines
  laid_part word tree.Absent = []
  laid_part word (tree.Otherwise n body) = line n word ∷ laid_in_turn body

abbrev pub laid_procedure : ProcedureTree → Lines
laid_procedure p = line p.line (saying.Procedure p.name) ∷ laid_in_turn p.body

abbrev pub laid_procedures : List ProcedureTree → Lines
laid_procedures ps = all_of (map laid_procedure ps)

-- all lines of a program that say something, in their order
abbrev pub laid_program : ProgramTree → Lines
laid_program p = laid_in_turn p.main ++ laid_procedures p.procedures

-- the lines of a form whose first one has this number
abbrev pub form_lines : Form → ℕ → Lines
form_lines form n = laid (form_command form n)

abbrev pub command_lines : Command → Lines
command_lines command = laid (command_of command)

-- the lines of commands one after another
abbrev pub body_lines : List Command → Lines
body_lines commands = laid_in_turn (commands_of commands)

-- the lines of a case before those of further ones
abbrev pub case_lines : Case → Lines
case_lines c = laid_cases (case_of c tree.Neither)

abbrev pub cases_lines : List Case → Lines
cases_lines cases = laid_cases (cases_of cases)

-- the lines of a branch that this word begins, if there is one
abbrev pub part_lines : Saying → Option Branch → Lines
part_lines word branch = laid_part word (part_of branch)

abbrev pub procedure_lines : Procedure → Lines
procedure_lines p = laid_procedure (procedure_of p)

abbrev pub procedures_lines : List Procedure → Lines
procedures_lines procedures = laid_procedures (map procedure_of procedures)

abbrev pub program_lines : Program → Lines
program_lines p = laid_program (program_of p)

-- what one line says; nothing of a line without meaning
abbrev pub lines_of_saying : ℕ → Saying → Lines
lines_of_saying n saying.Nothing = []
lines_of_saying n s = line n s ∷ []

-- what lines with these numbers say, one after another
abbrev pub said_lines : List ℕ → List Saying → Lines
said_lines [] says = []
said_lines (n ∷ numbers) [] = []
said_lines (n ∷ numbers) (s ∷ says) = lines_of_saying n s ++ said_lines numbers says
