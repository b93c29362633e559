-- A command of one line, without where it lies in memory.
use Rattle.std.specs.Prelude.{ℕ, List, Bool, map, Option, option_map}
use Rattle.prg_expr.specs.Tree.{Tree, tree_of}
use Rattle.arrayvec.specs.ArrayVec.{ArrayVec}
use Rattle.prg_line.specs.declared.statement.Toggle.{Toggle}
use Rattle.prg_line.specs.declared.statement.Selected.{Selected}
use Rattle.prg_line.specs.declared.statement.Selected.TheVariants as selected
use Rattle.prg_line.specs.declared.statement.Move.{Move}
use Rattle.prg_line.specs.declared.statement.Move.TheVariants as move
use Rattle.prg_line.specs.declared.statement.Replacement.{Replacement}
use Rattle.prg_line.specs.declared.statement.Statement.{Statement}
use Rattle.prg_line.specs.declared.statement.Statement.TheVariants as statement

-- the letters of a name
abbrev pub Letters : Type 0
Letters = List ℕ

-- an area by its number, or by a letter or a table's name
pub data Area : Type 0 where
  Number : ℕ → Area
  Named : Letters → Area

-- where GO leads
pub data Goal : Type 0 where
  Top : Goal
  Bottom : Goal
  Record : Tree → Goal

-- a field and its new value
pub record Change : Type 0 where
  pub field : Letters
  pub value : Tree

pub data Act : Type 0 where
  Show : List Tree → Act
  ShowOn : List Tree → Act
  Say : Tree → Tree → Tree → Act
  Get : Tree → Tree → Letters → Act
  SayGet : Tree → Tree → Tree → Letters → Act
  Read : Act
  Accept : Option Tree → Letters → Act
  Wait : Option Tree → Option Letters → Act
  Clear : Act
  Assign : Letters → Tree → Act
  Store : Tree → List Letters → Act
  Release : List Letters → Act
  Private : List Letters → Act
  Parameters : List Letters → Act
  Loop : Act
  Exit : Act
  Do : Letters → List Tree → Act
  Return : Act
  Quit : Act
  Cancel : Act
  Close : Act
  Use : Letters → List Letters → Act
  Select : Area → Act
  CloseAll : Act
  SetOrder : ℕ → Act
  SetFilter : Option Tree → Act
  Set : Toggle → Bool → Act
  Go : Goal → Act
  Skip : Option Tree → Act
  Seek : Tree → Act
  AppendBlank : Act
  Replace : List Change → Act
  Delete : Act
  Recall : Act
  Pack : Act
  Zap : Act
  Reindex : Act
  IndexOn : Tree → Letters → Act

abbrev pub letters_of : ArrayVec ℕ → Letters
letters_of name = name.items

abbrev pub area_said : Selected → Area
area_said (selected.Number n) = Number n
area_said (selected.Name name) = Named name.items

abbrev pub goal_of : Move → Goal
goal_of move.Top = Top
goal_of move.Bottom = Bottom
goal_of (move.Record e) = Record (tree_of e)

abbrev pub change_of : Replacement → Change
change_of r = record { field = r.field.items; value = tree_of r.value }

-- what a statement says
abbrev pub act_of : Statement → Act
act_of (statement.Show values) = Show (map tree_of values.items)
act_of (statement.ShowOn values) = ShowOn (map tree_of values.items)
act_of (statement.Say row column value) = Say (tree_of row) (tree_of column) (tree_of value)
act_of (statement.Get row column variable) = Get (tree_of row) (tree_of column) variable.items
act_of (statement.SayGet row column value variable) =
    SayGet (tree_of row) (tree_of column) (tree_of value) variable.items
act_of statement.Read = Read
act_of (statement.Accept prompt variable) = Accept (option_map tree_of prompt) variable.items
act_of (statement.Wait prompt variable) = Wait (option_map tree_of prompt) (option_map letters_of variable)
act_of statement.Clear = Clear
act_of (statement.Assign variable value) = Assign variable.items (tree_of value)
act_of (statement.Store value variables) = Store (tree_of value) (map letters_of variables.items)
act_of (statement.Release variables) = Release (map letters_of variables.items)
act_of (statement.Private variables) = Private (map letters_of variables.items)
act_of (statement.Parameters variables) = Parameters (map letters_of variables.items)
act_of statement.Loop = Loop
act_of statement.Exit = Exit
act_of (statement.Do procedure arguments) = Do procedure.items (map tree_of arguments.items)
act_of statement.Return = Return
act_of statement.Quit = Quit
act_of statement.Cancel = Cancel
act_of statement.Close = Close
act_of (statement.Use table indexes) = Use table.items (map letters_of indexes.items)
act_of (statement.Select area) = Select (area_said area)
act_of statement.CloseAll = CloseAll
act_of (statement.SetOrder order) = SetOrder order
act_of (statement.SetFilter condition) = SetFilter (option_map tree_of condition)
act_of (statement.Set setting on) = Set setting on
act_of (statement.Go to) = Go (goal_of to)
act_of (statement.Skip rows) = Skip (option_map tree_of rows)
act_of (statement.Seek key) = Seek (tree_of key)
act_of statement.AppendBlank = AppendBlank
act_of (statement.Replace replacements) = Replace (map change_of replacements.items)
act_of statement.Delete = Delete
act_of statement.Recall = Recall
act_of statement.Pack = Pack
act_of statement.Zap = Zap
act_of statement.Reindex = Reindex
act_of (statement.IndexOn key index) = IndexOn (tree_of key) index.items
