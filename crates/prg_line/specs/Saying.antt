-- What the lines of a file say.
use Rattle.std.specs.Prelude.{ℕ, Option, option_map}
use Rattle.prg_expr.specs.Tree.{Tree, tree_of}
use Rattle.prg_line.specs.declared.statement.Sentence.{Sentence}
use Rattle.prg_line.specs.declared.statement.Sentence.TheVariants as sentence
use Rattle.prg_line.specs.declared.role.Role.{Role}
use Rattle.prg_line.specs.declared.role.Role.TheVariants as role
use Rattle.prg_line.specs.Act.{Act, Letters, act_of}
use Rattle.prg_line.specs.Act as act

pub data Saying : Type 0 where
  -- a line without meaning
  Nothing : Saying
  -- a command of one line
  Whole : Act → Saying
  If : Tree → Saying
  Else : Saying
  EndIf : Saying
  DoCase : Saying
  Case : Tree → Saying
  Otherwise : Saying
  EndCase : Saying
  DoWhile : Tree → Saying
  EndDo : Saying
  Scan : Option Tree → Saying
  EndScan : Saying
  Procedure : Letters → Saying

abbrev pub saying_of : Sentence → Saying
saying_of sentence.Nothing = Nothing
saying_of (sentence.Whole s) = Whole (act_of s)
saying_of (sentence.If e) = If (tree_of e)
saying_of sentence.Else = Else
saying_of sentence.EndIf = EndIf
saying_of sentence.DoCase = DoCase
saying_of (sentence.Case e) = Case (tree_of e)
saying_of sentence.Otherwise = Otherwise
saying_of sentence.EndCase = EndCase
saying_of (sentence.DoWhile e) = DoWhile (tree_of e)
saying_of sentence.EndDo = EndDo
saying_of (sentence.Scan e) = Scan (option_map tree_of e)
saying_of sentence.EndScan = EndScan
saying_of (sentence.Procedure name) = Procedure name.items

-- a line that says something, with its number
pub record Line : Type 0 where
  pub number : ℕ
  pub saying : Saying

abbrev pub line : ℕ → Saying → Line
line n s = record { number = n; saying = s }

-- what the saying is to the blocks around its line
abbrev pub role_of : Saying → Role
role_of Nothing = role.Nothing
role_of (Whole act.Loop) = role.Leap
role_of (Whole act.Exit) = role.Leap
role_of (Whole _) = role.Plain
role_of (If e) = role.If
role_of Else = role.Else
role_of EndIf = role.EndIf
role_of DoCase = role.DoCase
role_of (Case e) = role.Case
role_of Otherwise = role.Otherwise
role_of EndCase = role.EndCase
role_of (DoWhile e) = role.DoWhile
role_of EndDo = role.EndDo
role_of (Scan e) = role.Scan
role_of EndScan = role.EndScan
role_of (Procedure s) = role.Procedure
