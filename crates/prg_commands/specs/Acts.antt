-- What stands in a code for each command of one line, from a place up to another.
use Rattle.std.specs.Prelude.{◌≡◌, ℕ, ◌+◌, Bool, true, false, ◌||◌, List, [], ◌∷◌, ◌++◌, map, Option, Some, None}
use Rattle.std.specs.Prelude.{slice_get, codes}
use Rattle.std.specs.List.{AllZip}
use Rattle.std.specs.Str.{bytes_eq}
use Rattle.xvalue.specs.declared.kind.Kind.{Kind}
use Rattle.xvalue.specs.declared.kind.Kind.TheVariants as kind
use Rattle.xvalue.specs.declared.fun.Fun.TheVariants as fun
use Rattle.xvalue.specs.declared.fun.TextFun.TheVariants as text_fun
use Rattle.xvalue.specs.declared.value.Value.{Value}
use Rattle.xvalue.specs.declared.value.Value.TheVariants as value
use Rattle.shape.specs.declared.indexes.IndexShape.{IndexShape}
use Rattle.shape.specs.declared.lists.IndexList.{IndexList}
use Rattle.code_items.specs.Desks.{open_at}
use Rattle.code_items.specs.declared.declared.Filter.{Filter as FilterItem}
use Rattle.code_items.specs.declared.desk.OpenArea.{OpenArea}
use Rattle.code_items.specs.declared.state.State.{State}
use Rattle.code_items.specs.declared.instr.ValueInstr.{ValueInstr}
use Rattle.code_items.specs.declared.instr.ValueInstr.TheVariants as value_instr
use Rattle.code_items.specs.declared.instr.ScreenInstr.{ScreenInstr}
use Rattle.code_items.specs.declared.instr.ScreenInstr.TheVariants as screen
use Rattle.code_items.specs.declared.instr.AreaInstr.{AreaInstr}
use Rattle.code_items.specs.declared.instr.AreaInstr.TheVariants as area_instr
use Rattle.code_items.specs.declared.instr.MoveInstr.{MoveInstr}
use Rattle.code_items.specs.declared.instr.MoveInstr.TheVariants as move_instr
use Rattle.code_items.specs.declared.instr.RecordInstr.{RecordInstr}
use Rattle.code_items.specs.declared.instr.RecordInstr.TheVariants as record_instr
use Rattle.code_items.specs.declared.instr.Instr.{Instr}
use Rattle.code_items.specs.declared.instr.Instr.TheVariants.{Values, Screen, Areas, Moves, Records}
use Rattle.code_rules.specs.declared.blocks.Block.{Block}
use Rattle.prg_expr.specs.Tree.{Tree}
use Rattle.prg_line.specs.declared.statement.Toggle.{Toggle}
use Rattle.prg_line.specs.Act.{Act, Area, Change, Goal, Letters, Number, Named, Top, Bottom, Record}
use Rattle.prg_line.specs.Act as act
use Rattle.prg_code.specs.Bindings.{slot_named}
use Rattle.prg_code.specs.declared.work.Get.{Get}
use Rattle.prg_values.specs.declared.scope.FieldPlace.{FieldPlace}
use Rattle.prg_values.specs.declared.scope.Reading.{Reading}
use Rattle.prg_values.specs.Readings.{alias_area, field_here, table_named}
use Rattle.prg_values.specs.declared.pieces.Piece.TheVariants.{Constant}
use Rattle.prg_values.specs.Written.{whole_as_value}
use Rattle.prg_values.specs.OneInstr.{may_wait, setting_of}
use Rattle.prg_values.specs.Placed.{InstrStands, StandAll, Leaves}
use Rattle.prg_commands.specs.Layout.{Laying, ExprLaid, Knows, NameLaid, scope_in}

-- an instruction that puts a constant on the stack
abbrev pub ConstantStands : Laying → ℕ → Value → ℕ → Type 0
ConstantStands f a v b = StandAll f.text a (Constant v ∷ []) b

-- instructions of one group
abbrev pub OnValues : Laying → ℕ → ValueInstr → ℕ → Type 0
OnValues f a i b = InstrStands f.text a (Values i) b

abbrev pub OnScreen : Laying → ℕ → ScreenInstr → ℕ → Type 0
OnScreen f a i b = InstrStands f.text a (Screen i) b

abbrev pub OnAreas : Laying → ℕ → AreaInstr → ℕ → Type 0
OnAreas f a i b = InstrStands f.text a (Areas i) b

abbrev pub Moved : Laying → ℕ → MoveInstr → ℕ → Type 0
Moved f a i b = InstrStands f.text a (Moves i) b

abbrev pub OnRecords : Laying → ℕ → RecordInstr → ℕ → Type 0
OnRecords f a i b = InstrStands f.text a (Records i) b

-- the names of the variables that GETs wait for
abbrev pub names_of : List Get → List Letters
names_of gets = map (λ get. get.variable.items) gets

abbrev pub text_of_letters : List ℕ → Value
text_of_letters letters = value.Text (record { items = letters })

abbrev pub blank : Value
blank = text_of_letters (codes " ")

abbrev pub any_key : Value
any_key = text_of_letters (codes "Press any key to continue...")

-- ---- variables

-- the value on top goes into the variable's slot
abbrev pub Stored : Laying → ℕ → Letters → Kind → ℕ → Type 0
Stored f a name k b =
    (slot : ℕ) × (slot_named f.names name ≡ Some slot) × InstrStands f.text a (Values (value_instr.Store k slot)) b

abbrev pub Assigned : Laying → ℕ → Letters → Tree → ℕ → Type 0
Assigned f a name e b = (k : Kind) × (m : ℕ) × ExprLaid f a e k m × Stored f m name k b

-- each further variable gets the value of the slot
abbrev pub Copied : Laying → ℕ → Kind → ℕ → List Letters → ℕ → Type 0
Copied f a k slot [] b = b ≡ a
Copied f a k slot (name ∷ names) b = (m : ℕ) × (n : ℕ) × InstrStands f.text a (Values (value_instr.Load k slot)) m
    × Stored f m name k n × Copied f n k slot names b

abbrev pub StoredAll : Laying → ℕ → Tree → List Letters → ℕ → Type 0
StoredAll f a e [] b = ⊥
StoredAll f a e (name ∷ names) b = (k : Kind) × (slot : ℕ) × (m : ℕ) × (n : ℕ) × ExprLaid f a e k m
    × (slot_named f.names name ≡ Some slot) × InstrStands f.text m (Values (value_instr.Store k slot)) n
    × Copied f n k slot names b

abbrev pub Released : Laying → ℕ → List Letters → ℕ → Type 0
Released f a [] b = b ≡ a
Released f a (name ∷ names) b = (slot : ℕ) × (m : ℕ) × (slot_named f.names name ≡ Some slot)
    × InstrStands f.text a (Values (value_instr.Unset slot)) m × Released f m names b

abbrev pub IsSet : Laying → ℕ → Toggle → Bool → ℕ → Type 0
IsSet f a switch on b = InstrStands f.text a (Values (value_instr.Set (setting_of switch) on)) b

-- ---- the screen and the operator's lines

-- a value is shown at the cursor
abbrev pub ShownOne : Laying → ℕ → Tree → ℕ → Type 0
ShownOne f a e b = (k : Kind) × (m : ℕ) × ExprLaid f a e k m × OnScreen f m (screen.Print k) b

abbrev pub ShownBlank : Laying → ℕ → ℕ → Type 0
ShownBlank f a b = (m : ℕ) × ConstantStands f a blank m × OnScreen f m (screen.Print kind.Text) b

-- values, each behind a blank
abbrev pub ShownMore : Laying → ℕ → List Tree → ℕ → Type 0
ShownMore f a [] b = b ≡ a
ShownMore f a (e ∷ es) b = (m : ℕ) × (n : ℕ) × ShownBlank f a m × ShownOne f m e n × ShownMore f n es b

-- values with a blank between two
abbrev pub Shown : Laying → ℕ → List Tree → ℕ → Type 0
Shown f a [] b = b ≡ a
Shown f a (e ∷ es) b = (m : ℕ) × ShownOne f a e m × ShownMore f m es b

abbrev pub ShownLine : Laying → ℕ → List Tree → ℕ → Type 0
ShownLine f a es b = (m : ℕ) × OnScreen f a screen.NewLine m × Shown f m es b

-- a row and a column
abbrev pub Placed : Laying → ℕ → Tree → Tree → ℕ → Type 0
Placed f a row column b = (m : ℕ) × ExprLaid f a row kind.Number m × ExprLaid f m column kind.Number b

abbrev pub SayLaid : Laying → ℕ → Tree → Tree → Tree → ℕ → Type 0
SayLaid f a row column e b =
    (k : Kind) × (m : ℕ) × (n : ℕ) × Placed f a row column m × ExprLaid f m e k n × OnScreen f n (screen.Say k) b

-- a GET shows what its variable or field holds
abbrev pub Got : Laying → ℕ → Tree → Tree → Letters → ℕ → Type 0
Got f a row column name b = (r : Reading) × (m : ℕ) × (n : ℕ) × Placed f a row column m × NameLaid f m name r n
    × OnScreen f n (screen.Say r.kind) b

abbrev pub GotOn : Laying → ℕ → Letters → ℕ → Type 0
GotOn f a name b = (r : Reading) × (m : ℕ) × NameLaid f a name r m × OnScreen f m (screen.SayOn r.kind) b

abbrev pub SaidAndGot : Laying → ℕ → Tree → Tree → Tree → Letters → ℕ → Type 0
SaidAndGot f a row column e name b = (m : ℕ) × SayLaid f a row column e m × GotOn f m name b

-- the instruction that takes a value to where another one reads it
abbrev pub kept_value : ValueInstr → Kind → Option Instr
kept_value (value_instr.Load j slot) k = Some (Values (value_instr.Store k slot))
kept_value _ k = None

abbrev pub kept_record : RecordInstr → Option Instr
kept_record (record_instr.Field area field) = Some (Records (record_instr.Replace field))
kept_record _ = None

abbrev pub kept : Instr → Kind → Option Instr
kept (Values i) k = kept_value i k
kept (Records i) k = kept_record i
kept _ k = None

-- a line of the operator for one GET
abbrev pub TakenOne : Laying → ℕ → Letters → ℕ → Type 0
TakenOne f a name b = (r : Reading) × (i : Instr) × (m : ℕ) × (n : ℕ) × NameLaid f a name r m
    × OnScreen f m (screen.Input r.kind) n × (kept r.instr r.kind ≡ Some i) × InstrStands f.text n i b

abbrev pub ReadLaid : Laying → ℕ → List Letters → ℕ → Type 0
ReadLaid f a [] b = b ≡ a
ReadLaid f a (name ∷ names) b = (m : ℕ) × TakenOne f a name m × ReadLaid f m names b

-- a text is shown
abbrev pub Prompted : Laying → ℕ → Option Tree → ℕ → Type 0
Prompted f a None b = b ≡ a
Prompted f a (Some e) b = (m : ℕ) × ExprLaid f a e kind.Text m × OnScreen f m (screen.Print kind.Text) b

abbrev pub AcceptLaid : Laying → ℕ → Option Tree → Letters → ℕ → Type 0
AcceptLaid f a prompt name b = (m : ℕ) × (n : ℕ) × (o : ℕ) × OnScreen f a screen.NewLine m × Prompted f m prompt n
    × OnScreen f n screen.Line o × Stored f o name kind.Text b

-- the text that is shown while a key is awaited
abbrev pub Asked : Laying → ℕ → Option Tree → ℕ → Type 0
Asked f a None b = ConstantStands f a any_key b
Asked f a (Some e) b = ExprLaid f a e kind.Text b

-- of the operator's line the first letter goes into the variable, if there is one
abbrev pub KeyTaken : Laying → ℕ → Option Letters → ℕ → Type 0
KeyTaken f a None b = InstrStands f.text a (Values (value_instr.Discard kind.Text)) b
KeyTaken f a (Some name) b = (m : ℕ) × (n : ℕ) × ConstantStands f a (whole_as_value 1) m
    × InstrStands f.text m (Values (value_instr.Function (fun.ToText text_fun.Left))) n × Stored f n name kind.Text b

abbrev pub Waited : Laying → ℕ → Option Tree → Option Letters → ℕ → Type 0
Waited f a prompt name b = (m : ℕ) × (n : ℕ) × (o : ℕ) × (p : ℕ) × OnScreen f a screen.NewLine m × Asked f m prompt n
    × OnScreen f n (screen.Print kind.Text) o × OnScreen f o screen.Line p × KeyTaken f p name b

-- ---- work areas

-- the number of one of these indexes that has this name
abbrev pub NamesIndex : List IndexShape → Letters → ℕ → Type 0
NamesIndex indexes name number =
    (i : IndexShape) × (slice_get indexes number ≡ Some i) × (bytes_eq i.name.items name ≡ true)

-- the number of a declared index of this name
abbrev pub IsIndex : Laying → Letters → ℕ → Type 0
IsIndex f name number = NamesIndex f.declared.shape.indexes name number

-- the number, from 1, of the declared list of the indexes of these numbers; of none 0
abbrev pub IsNumbered : Laying → List ℕ → ℕ → Type 0
IsNumbered f [] number = number ≡ 0
IsNumbered f (index ∷ indexes) number = (n : ℕ) × (list : IndexList) × (number ≡ n + 1)
    × (slice_get f.declared.lists n ≡ Some list) × (list.indexes.items ≡ index ∷ indexes)

-- the number, from 1, of the list of these indexes; of none 0
abbrev pub IsList : Laying → List Letters → ℕ → Type 0
IsList f [] number = number ≡ 0
IsList f (name ∷ names) number = (n : ℕ) × (list : IndexList) × (number ≡ n + 1)
    × (slice_get f.declared.lists n ≡ Some list) × AllZip (IsIndex f) (name ∷ names) list.indexes.items

abbrev pub Opened : Laying → ℕ → Letters → List Letters → ℕ → Type 0
Opened f a name indexes b = (table : ℕ) × (list : ℕ) × (table_named f.declared.shape name ≡ Some table)
    × IsList f indexes list × OnAreas f a (area_instr.Open table list) b

-- the work area that an alias names
abbrev pub IsArea : Laying → ℕ → Letters → ℕ → Type 0
IsArea f a name n = (s : State) × Knows f a s × (alias_area (scope_in f s false) name ≡ Some n)

abbrev pub Selected : Laying → ℕ → Area → ℕ → Type 0
Selected f a (Number n) b = OnAreas f a (area_instr.Select n) b
Selected f a (Named name) b = (n : ℕ) × IsArea f a name n × OnAreas f a (area_instr.Select n) b

-- the filter is of the table that the selected work area holds
abbrev pub IsOfSelected : State → FilterItem → Type 0
IsOfSelected s filter = (area : OpenArea) × (open_at s.desk s.desk.selected ≡ Some area) × (filter.table ≡ area.table)

-- the code of the condition is the whole block
abbrev pub IsBlock : Laying → State → Tree → Block → Type 0
IsBlock f s e block = Leaves f.text (scope_in f s true) block.first e kind.Logical block.end

-- the filter, numbered from 0, is of the table that the selected work area holds, and its block is the condition's code
pub record IsFilter (f : Laying) (a : ℕ) (e : Tree) (n : ℕ) : Type 0 where
  pub state : State
  pub known : Knows f a state
  pub filter : FilterItem
  pub there : slice_get f.declared.filters n ≡ Some filter
  pub of_selected : IsOfSelected state filter
  pub block : Block
  pub stands : slice_get f.filters n ≡ Some block
  pub condition : IsBlock f state e block

-- the same numbered from 1
abbrev pub IsFilterNumber : Laying → ℕ → Tree → ℕ → Type 0
IsFilterNumber f a e number = (n : ℕ) × (number ≡ n + 1) × IsFilter f a e n

abbrev pub FilteredBy : Laying → ℕ → Tree → ℕ → Type 0
FilteredBy f a e b = (number : ℕ) × IsFilterNumber f a e number × OnAreas f a (area_instr.Filter number) b

abbrev pub Filtered : Laying → ℕ → Option Tree → ℕ → Type 0
Filtered f a None b = OnAreas f a (area_instr.Filter 0) b
Filtered f a (Some e) b = FilteredBy f a e b

abbrev pub Gone : Laying → ℕ → Goal → ℕ → Type 0
Gone f a Top b = Moved f a move_instr.Top b
Gone f a Bottom b = Moved f a move_instr.Bottom b
Gone f a (Record e) b = (m : ℕ) × ExprLaid f a e kind.Number m × Moved f m move_instr.Go b

-- how many rows a SKIP goes on, 1 where it doesn't say
abbrev pub Counted : Laying → ℕ → Option Tree → ℕ → Type 0
Counted f a None b = ConstantStands f a (whole_as_value 1) b
Counted f a (Some e) b = ExprLaid f a e kind.Number b

abbrev pub Skipped : Laying → ℕ → Option Tree → ℕ → Type 0
Skipped f a rows b = (m : ℕ) × Counted f a rows m × Moved f m move_instr.Skip b

abbrev pub Sought : Laying → ℕ → Tree → ℕ → Type 0
Sought f a key b = (m : ℕ) × ExprLaid f a key kind.Text m × Moved f m move_instr.Seek b

-- ---- records

-- the field of this name of the table that the selected work area holds
abbrev pub IsField : Laying → ℕ → Letters → FieldPlace → Type 0
IsField f a name field = (s : State) × Knows f a s × (field_here (scope_in f s false) name ≡ Some (Some field))

abbrev pub ReplacedOne : Laying → ℕ → Change → ℕ → Type 0
ReplacedOne f a change b = (field : FieldPlace) × (m : ℕ) × IsField f m change.field field
    × ExprLaid f a change.value field.kind m × OnRecords f m (record_instr.Replace field.number) b

abbrev pub Replaced : Laying → ℕ → List Change → ℕ → Type 0
Replaced f a [] b = b ≡ a
Replaced f a (change ∷ changes) b = (m : ℕ) × ReplacedOne f a change m × Replaced f m changes b

-- the index of this name alone is made anew
abbrev pub Indexed : Laying → ℕ → List Letters → ℕ → Type 0
Indexed f a names b = (list : ℕ) × IsList f names list × OnRecords f a (record_instr.Index list) b

-- ---- all of them

-- A command of one line, where these GETs wait for their READ. PRIVATE makes no code. LOOP, EXIT, RETURN, QUIT and
-- CANCEL are told with the blocks around them; DO and PARAMETERS belong to programs with procedures.
abbrev pub ActLaid : Laying → List Letters → ℕ → Act → ℕ → Type 0
ActLaid f gets a (act.Show values) b = ShownLine f a values b
ActLaid f gets a (act.ShowOn values) b = Shown f a values b
ActLaid f gets a (act.Say row column e) b = SayLaid f a row column e b
ActLaid f gets a (act.Get row column name) b = Got f a row column name b
ActLaid f gets a (act.SayGet row column e name) b = SaidAndGot f a row column e name b
ActLaid f gets a act.Read b = ReadLaid f a gets b
ActLaid f gets a (act.Accept prompt name) b = AcceptLaid f a prompt name b
ActLaid f gets a (act.Wait prompt name) b = Waited f a prompt name b
ActLaid f gets a act.Clear b = OnScreen f a screen.Clear b
ActLaid f gets a (act.Assign name e) b = Assigned f a name e b
ActLaid f gets a (act.Store e names) b = StoredAll f a e names b
ActLaid f gets a (act.Release names) b = Released f a names b
ActLaid f gets a (act.Private names) b = b ≡ a
ActLaid f gets a act.Close b = OnAreas f a area_instr.Close b
ActLaid f gets a (act.Use table indexes) b = Opened f a table indexes b
ActLaid f gets a (act.Select area) b = Selected f a area b
ActLaid f gets a act.CloseAll b = OnAreas f a area_instr.CloseAll b
ActLaid f gets a (act.SetOrder order) b = OnAreas f a (area_instr.Order order) b
ActLaid f gets a (act.SetFilter condition) b = Filtered f a condition b
ActLaid f gets a (act.Set switch on) b = IsSet f a switch on b
ActLaid f gets a (act.Go to) b = Gone f a to b
ActLaid f gets a (act.Skip rows) b = Skipped f a rows b
ActLaid f gets a (act.Seek key) b = Sought f a key b
ActLaid f gets a act.AppendBlank b = OnRecords f a record_instr.Append b
ActLaid f gets a (act.Replace changes) b = Replaced f a changes b
ActLaid f gets a act.Delete b = OnRecords f a record_instr.Delete b
ActLaid f gets a act.Recall b = OnRecords f a record_instr.Recall b
ActLaid f gets a act.Pack b = OnRecords f a record_instr.Pack b
ActLaid f gets a act.Zap b = OnRecords f a record_instr.Zap b
ActLaid f gets a act.Reindex b = OnRecords f a record_instr.Reindex b
ActLaid f gets a (act.IndexOn key index) b = Indexed f a (index ∷ []) b
ActLaid f gets a _ b = ⊥

abbrev pub is_none_waiting : List Letters → Bool
is_none_waiting [] = true
is_none_waiting (name ∷ names) = false

-- whether a command may stand where these GETs wait for their READ
abbrev pub may_follow_gets : List Letters → Act → Bool
may_follow_gets gets act = may_wait act || is_none_waiting gets

-- the GETs that wait behind a command
abbrev pub waiting : List Letters → Act → List Letters
waiting gets (act.Get row column name) = gets ++ name ∷ []
waiting gets (act.SayGet row column e name) = gets ++ name ∷ []
waiting gets act.Read = []
waiting gets _ = gets
