-- The kinds of the values that an instruction takes and gives, as far as they are known.
use Rattle.std.specs.Prelude.{ℕ, List, [], ◌∷◌, Option, Some, None, reverse, slice_get}
use Rattle.xvalue.specs.declared.kind.Kind.{Kind}
use Rattle.xvalue.specs.declared.kind.Kind.TheVariants.{Number as OfNumber, Text as OfText, Date as OfDate}
use Rattle.xvalue.specs.declared.kind.Kind.TheVariants.{Logical as OfLogical}
use Rattle.xvalue.specs.Kinds.{kind_held}
use Rattle.xvalue.specs.Signature.{takes_of, gives_of}
use Rattle.dbf_file.specs.declared.field.Field.{Field as TableField}
use Rattle.dbf_file.specs.Values.{kind_for}
use Rattle.shape.specs.declared.tables.TableShape.{TableShape}
use Rattle.code_items.specs.declared.declared.Declared.{Declared}
use Rattle.code_items.specs.declared.desk.Desk.{Desk}
use Rattle.code_items.specs.declared.desk.OpenArea.{OpenArea}
use Rattle.code_items.specs.declared.instr.Question.{Question}
use Rattle.code_items.specs.declared.instr.Question.TheVariants.{Recno, Reccount, Eof, Bof, Found, Deleted}
use Rattle.code_items.specs.Desks.{open_at}
use Rattle.code_items.specs.declared.instr.ValueInstr.{ValueInstr}
use Rattle.code_items.specs.declared.instr.ValueInstr.TheVariants.{Constant, Load, Store, Discard, Function, Today}
use Rattle.code_items.specs.declared.instr.FlowInstr.{FlowInstr}
use Rattle.code_items.specs.declared.instr.FlowInstr.TheVariants.{JumpFalse}
use Rattle.code_items.specs.declared.instr.ScreenInstr.{ScreenInstr}
use Rattle.code_items.specs.declared.instr.ScreenInstr.TheVariants.{Print, Say, SayOn, Input, Line}
use Rattle.code_items.specs.declared.instr.MoveInstr.{MoveInstr}
use Rattle.code_items.specs.declared.instr.MoveInstr.TheVariants.{Top, Bottom, Skip, Go, Seek}
use Rattle.code_items.specs.declared.instr.RecordInstr.{RecordInstr}
use Rattle.code_items.specs.declared.instr.RecordInstr.TheVariants.{Field, RowField, Ask, Replace}
use Rattle.code_items.specs.declared.instr.Instr.{Instr}
use Rattle.code_items.specs.declared.instr.Instr.TheVariants.{Values, Flow, Screen, Areas, Moves, Records}

-- the fields of a table
abbrev pub fields_declared : Option TableShape → List TableField
fields_declared None = []
fields_declared (Some t) = t.fields

-- the fields of the table that an open area holds
abbrev pub fields_at : Declared → Option OpenArea → List TableField
fields_at d None = []
fields_at d (Some a) = fields_declared (slice_get d.shape.tables a.table)

abbrev pub kind_of_field : Option TableField → Option Kind
kind_of_field None = None
kind_of_field (Some f) = Some (kind_for f.letter)

-- the kind of a field of what a work area holds; not known where the area isn't open or has no such field
abbrev pub field_kind : Declared → Desk → ℕ → ℕ → Option Kind
field_kind d desk area field = kind_of_field (slice_get (fields_at d (open_at desk area)) field)

-- the kinds that it takes, the top first, as far as they are known

abbrev pub if_known : Option Kind → List Kind
if_known None = []
if_known (Some kind) = kind ∷ []

abbrev pub value_wants : ValueInstr → List Kind
value_wants (Store k s) = k ∷ []
value_wants (Discard k) = k ∷ []
value_wants (Function f) = reverse (takes_of f)
value_wants _ = []

abbrev pub flow_wants : FlowInstr → List Kind
flow_wants (JumpFalse p) = OfLogical ∷ []
flow_wants _ = []

abbrev pub screen_wants : ScreenInstr → List Kind
screen_wants (Print k) = k ∷ []
screen_wants (Say k) = k ∷ OfNumber ∷ OfNumber ∷ []
screen_wants (SayOn k) = k ∷ []
screen_wants (Input k) = k ∷ []
screen_wants _ = []

abbrev pub move_wants : MoveInstr → List Kind
move_wants Top = []
move_wants Bottom = []
move_wants Skip = OfNumber ∷ []
move_wants Go = OfNumber ∷ []
move_wants Seek = OfText ∷ []

abbrev pub record_wants : Declared → Desk → RecordInstr → List Kind
record_wants d desk (Replace f) = if_known (field_kind d desk desk.selected f)
record_wants d desk _ = []

abbrev pub wants : Declared → Desk → Instr → List Kind
wants d desk (Values i) = value_wants i
wants d desk (Flow i) = flow_wants i
wants d desk (Screen i) = screen_wants i
wants d desk (Areas i) = []
wants d desk (Moves i) = move_wants i
wants d desk (Records i) = record_wants d desk i

-- the kind of the value that it gives; None inside where it isn't known

abbrev pub kind_asked : Question → Kind
kind_asked Recno = OfNumber
kind_asked Reccount = OfNumber
kind_asked Eof = OfLogical
kind_asked Bof = OfLogical
kind_asked Found = OfLogical
kind_asked Deleted = OfLogical

abbrev pub value_gives : Declared → ValueInstr → Option (Option Kind)
value_gives d (Constant n) = Some (kind_held (slice_get d.constants n))
value_gives d (Load k s) = Some (Some k)
value_gives d (Function f) = Some (Some (gives_of f))
value_gives d Today = Some (Some OfDate)
value_gives d _ = None

abbrev pub screen_gives : ScreenInstr → Option (Option Kind)
screen_gives (Input k) = Some (Some k)
screen_gives Line = Some (Some OfText)
screen_gives _ = None

abbrev pub record_gives : Declared → Desk → RecordInstr → Option (Option Kind)
record_gives d desk (Field a f) = Some (field_kind d desk a f)
record_gives d desk (RowField f) = Some (field_kind d desk desk.selected f)
record_gives d desk (Ask q) = Some (Some (kind_asked q))
record_gives d desk _ = None

abbrev pub gives : Declared → Desk → Instr → Option (Option Kind)
gives d desk (Values i) = value_gives d i
gives d desk (Screen i) = screen_gives i
gives d desk (Records i) = record_gives d desk i
gives d desk _ = None

-- what it adds to the stack that is known, and how much that isn't

abbrev pub known : Option (Option Kind) → List Kind
known None = []
known (Some None) = []
known (Some (Some kind)) = kind ∷ []

abbrev pub unknown : Option (Option Kind) → ℕ
unknown None = 0
unknown (Some None) = 1
unknown (Some (Some kind)) = 0
