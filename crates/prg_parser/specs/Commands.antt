-- The commands of a program as a tree, without where they lie in memory. Numbers are those of lines in the file.
use Rattle.std.specs.Prelude.{ℕ, List, [], ◌∷◌, map, Option, Some, None, option_map}
use Rattle.prg_expr.specs.Tree.{Tree, tree_of}
use Rattle.prg_line.specs.Act.{Act, Letters, act_of}
use Rattle.prg_parser.specs.declared.command.Command.{Command}
use Rattle.prg_parser.specs.declared.command.Case.{Case}
use Rattle.prg_parser.specs.declared.command.Branch.{Branch}
use Rattle.prg_parser.specs.declared.command.Form.{Form}
use Rattle.prg_parser.specs.declared.command.Form.TheOpen.{Form-F, Command-F, Case-F, Branch-F}
use Rattle.prg_parser.specs.declared.command.Form.TheFolds.{fold-Form, fold-Command, fold-Case, fold-Branch}
use Rattle.prg_parser.specs.declared.program.Procedure.{Procedure}
use Rattle.prg_parser.specs.declared.program.Program.{Program}

mutual
  pub data Cmd : Type 0 where
    -- a command of one line
    Single : ℕ → Act → Cmd
    -- IF condition, its commands, perhaps ELSE, and the line of ENDIF
    If : ℕ → Tree → Cmds → Part → ℕ → Cmd
    -- DO CASE, its cases, perhaps OTHERWISE, and the line of ENDCASE
    DoCase : ℕ → Cases → Part → ℕ → Cmd
    -- DO WHILE condition, its commands, and the line of ENDDO
    DoWhile : ℕ → Tree → Cmds → ℕ → Cmd
    -- SCAN, perhaps FOR a condition, its commands, and the line of ENDSCAN
    Scan : ℕ → Option Tree → Cmds → ℕ → Cmd

  -- commands one after another
  pub data Cmds : Type 0 where
    Done : Cmds
    Then : Cmd → Cmds → Cmds

  -- each CASE with its condition and its commands
  pub data Cases : Type 0 where
    Neither : Cases
    When : ℕ → Tree → Cmds → Cases → Cases

  -- what is done otherwise, if anything: the commands behind ELSE or OTHERWISE
  pub data Part : Type 0 where
    Absent : Part
    Otherwise : ℕ → Cmds → Part

-- a procedure and its commands
pub record ProcedureTree : Type 0 where
  pub line : ℕ
  pub name : Letters
  pub body : Cmds

-- the commands of a file before its first procedure, and its procedures
pub record ProgramTree : Type 0 where
  pub main : Cmds
  pub procedures : List ProcedureTree

abbrev pub in_turn : List Cmd → Cmds
in_turn [] = Done
in_turn (c ∷ cs) = Then c (in_turn cs)

-- cases, each of which is put in front of those behind it
abbrev pub cases_in_order : List (Cases → Cases) → Cases
cases_in_order [] = Neither
cases_in_order (put ∷ others) = put (cases_in_order others)

abbrev pub or_absent : Option Part → Part
or_absent None = Absent
or_absent (Some part) = part

-- One layer, with the trees of the parts in their places: a form becomes a command where the line is known, a case is
-- put in front of further cases.
abbrev pub form_node : Form-F (ℕ → Cmd) Part (Cases → Cases) Cmd → ℕ → Cmd
form_node (Form-F.Statement s) n = Single n (act_of s)
form_node (Form-F.If e then otherwise end) n = If n (tree_of e) (in_turn then.items) (or_absent otherwise) end
form_node (Form-F.DoCase cases otherwise end) n = DoCase n (cases_in_order cases.items) (or_absent otherwise) end
form_node (Form-F.DoWhile e body end) n = DoWhile n (tree_of e) (in_turn body.items) end
form_node (Form-F.Scan e body end) n = Scan n (option_map tree_of e) (in_turn body.items) end

abbrev pub branch_node : Branch-F (ℕ → Cmd) Part (Cases → Cases) Cmd → Part
branch_node b = Otherwise b.line (in_turn b.body.items)

abbrev pub case_node : Case-F (ℕ → Cmd) Part (Cases → Cases) Cmd → Cases → Cases
case_node c others = When c.line (tree_of c.condition) (in_turn c.body.items) others

abbrev pub command_node : Command-F (ℕ → Cmd) Part (Cases → Cases) Cmd → Cmd
command_node c = c.form c.line

-- the command that a form is in a line
abbrev pub form_command : Form → ℕ → Cmd
form_command = fold-Form (ℕ → Cmd) Part (Cases → Cases) Cmd form_node branch_node case_node command_node

abbrev pub branch_of : Branch → Part
branch_of = fold-Branch (ℕ → Cmd) Part (Cases → Cases) Cmd form_node branch_node case_node command_node

-- a case in front of further ones
abbrev pub case_of : Case → Cases → Cases
case_of = fold-Case (ℕ → Cmd) Part (Cases → Cases) Cmd form_node branch_node case_node command_node

abbrev pub command_of : Command → Cmd
command_of = fold-Command (ℕ → Cmd) Part (Cases → Cases) Cmd form_node branch_node case_node command_node

abbrev pub commands_of : List Command → Cmds
commands_of commands = in_turn (map command_of commands)

abbrev pub cases_of : List Case → Cases
cases_of cases = cases_in_order (map case_of cases)

abbrev pub part_of : Option Branch → Part
part_of branch = or_absent (option_map branch_of branch)

abbrev pub procedure_of : Procedure → ProcedureTree
procedure_of p = record { line = p.line; name = p.name.items; body = commands_of p.body.items }

-- the tree of a program
abbrev pub program_of : Program → ProgramTree
program_of p = record { main = commands_of p.main.items; procedures = map procedure_of p.procedures.items }
