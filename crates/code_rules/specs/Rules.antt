-- The rules at one place, and the codes that keep them everywhere.
use Rattle.std.specs.Prelude.{◌≡◌, ◌<◌, ℕ, zero, suc, ◌+◌, ◌-◌, Bool, true, false, not, ◌||◌, ◌&&◌, ◌==◌, nat_lt}
use Rattle.std.specs.Prelude.{nat_le, if◌then◌else◌, List, [], ◌∷◌, Option, Some, None, is_none, length, slice_get}
use Rattle.std.specs.List.{list_any}
use Rattle.xvalue.specs.declared.kind.Kind.{Kind}
use Rattle.xvalue.specs.declared.kind.Kind.TheVariants.{Logical as OfLogical}
use Rattle.xvalue.specs.Kinds.{same_kind}
use Rattle.code_items.specs.declared.declared.Need.{Need}
use Rattle.code_items.specs.declared.declared.Filter.{Filter as FilterItem}
use Rattle.code_items.specs.declared.declared.Declared.{Declared}
use Rattle.code_items.specs.declared.code.Proc.{Proc}
use Rattle.code_items.specs.declared.code.Code.{Code}
use Rattle.code_items.specs.declared.state.State.{State}
use Rattle.code_items.specs.declared.desk.Desk.{Desk}
use Rattle.code_items.specs.declared.desk.OpenArea.{OpenArea}
use Rattle.code_items.specs.declared.desk.AreaState.{AreaState}
use Rattle.code_items.specs.declared.desk.AreaState.TheVariants.{Closed, Open as IsOpen, Unsure}
use Rattle.code_items.specs.declared.instr.Question.{Question}
use Rattle.code_items.specs.declared.instr.Question.TheVariants.{Recno, Reccount, Eof, Bof, Found, Deleted}
use Rattle.code_items.specs.Desks.{open_at, desk_covered}
use Rattle.code_items.specs.Kinds.{clashes, same_kinds, kinds_covered, slots_covered}
use Rattle.code_items.specs.Declarations.{list_of, filter_of}
use Rattle.code_items.specs.States.{is_list_of, is_filter_of, opened_by}
use Rattle.code_items.specs.declared.instr.ValueInstr.{ValueInstr}
use Rattle.code_items.specs.declared.instr.ValueInstr.TheVariants.{Constant, Load, Store, Unset, Discard, Function}
use Rattle.code_items.specs.declared.instr.ValueInstr.TheVariants.{Today, Set}
use Rattle.code_items.specs.declared.instr.FlowInstr.{FlowInstr}
use Rattle.code_items.specs.declared.instr.FlowInstr.TheVariants.{Return}
use Rattle.code_items.specs.declared.instr.AreaInstr.{AreaInstr}
use Rattle.code_items.specs.declared.instr.AreaInstr.TheVariants.{Open, Order, Filter}
use Rattle.code_items.specs.declared.instr.MoveInstr.{MoveInstr}
use Rattle.code_items.specs.declared.instr.MoveInstr.TheVariants.{Seek}
use Rattle.code_items.specs.declared.instr.RecordInstr.{RecordInstr}
use Rattle.code_items.specs.declared.instr.RecordInstr.TheVariants.{Field, RowField, Ask, Replace, Index}
use Rattle.code_items.specs.declared.instr.Instr.{Instr}
use Rattle.code_items.specs.declared.instr.Instr.TheVariants.{Values, Flow, Areas, Moves, Records}
use Rattle.code_rules.specs.declared.blocks.Block.{Block}
use Rattle.code_rules.specs.declared.rule.Rule.{Rule}
use Rattle.code_rules.specs.declared.rule.Rule.TheVariants.{Kind as RuleKind, Unset as RuleUnset, ClosedArea}
use Rattle.code_rules.specs.declared.rule.Rule.TheVariants.{OtherTable, NoOrder, OpenTwice, StackUnder, StackOver}
use Rattle.code_rules.specs.declared.rule.Rule.TheVariants.{StackNotEmpty, Jump as RuleJump, Fall, CallLevel, Exit}
use Rattle.code_rules.specs.declared.rule.Rule.TheVariants.{Filter as RuleFilter, Constant as RuleConstant}
use Rattle.code_rules.specs.Signature.{signature, target_of, call_of, area_of}
use Rattle.code_rules.specs.Wants.{wants, gives, unknown, fields_at}
use Rattle.code_rules.specs.Flow.{flow}
use Rattle.code_rules.specs.Places.{instr_at, block_at, map_at, start_of, state_at}

-- ---- what flows into a state is covered by it, as far as that state is known: the same selected work area, areas and
-- stack, and slots that are free in it or of the same kind

abbrev pub slots_fail : Option State → State → Bool
slots_fail None s = false
slots_fail (Some m) s = not (slots_covered m.slots s.slots)

abbrev pub desk_fails : Option State → State → Bool
desk_fails None s = false
desk_fails (Some m) s = not (desk_covered m.desk s.desk)

-- so many values of kinds that aren't known are on top of the stack that flows there
abbrev pub stack_fails : ℕ → Option State → State → Bool
stack_fails more None s = false
stack_fails more (Some m) s = not (kinds_covered more m.stack s.stack)

-- ---- where that is judged

-- an instruction at a place of a block, what is known before it, and what it leaves
pub record Here : Type 0 where
  pub place : ℕ
  pub block : Block
  pub instr : Instr
  pub before : State
  pub after : State

-- a test at the place that is named, if one is
abbrev pub fails_if_named : (ℕ → Bool) → Option ℕ → Bool
fails_if_named fails None = false
fails_if_named fails (Some n) = fails n

-- the procedure of that number isn't there
abbrev pub no_procedure : Code → ℕ → Bool
no_procedure code n = is_none (slice_get code.procedures n)

-- it goes on behind itself, and what it leaves is known: it calls no procedure that isn't there
abbrev pub leads_on : Code → Instr → Bool
leads_on code i = (signature i).falls && not (fails_if_named (no_procedure code) (call_of i))

-- at each place that it may lead to
abbrev pub some_next : Code → (ℕ → Bool) → Here → Bool
some_next code fails h = fails_if_named fails (target_of h.instr) || (leads_on code h.instr && fails (h.place + 1))

-- where its block begins
abbrev pub at_start : Bool → Here → Bool
at_start fails h = h.block.first == h.place && fails

abbrev pub entry_in : Option Proc → Option State
entry_in None = None
entry_in (Some p) = Some p.entry

-- the entry state of the procedure that it calls
abbrev pub called_entry : Code → Option ℕ → Option State
called_entry code None = None
called_entry code (Some n) = entry_in (slice_get code.procedures n)

abbrev pub entered : Code → Instr → Option State
entered code i = called_entry code (call_of i)

-- ---- the rules one by one

-- a value taken or a slot loaded has another kind; a slot isn't covered

abbrev pub has_other : Kind → Option (Option Kind) → Bool
has_other kind None = false
has_other kind (Some None) = false
has_other kind (Some (Some there)) = not (same_kind there kind)

abbrev pub is_free : Option (Option Kind) → Bool
is_free None = false
is_free (Some None) = true
is_free (Some (Some there)) = false

abbrev pub value_loads_other : State → ValueInstr → Bool
value_loads_other s (Load kind slot) = has_other kind (slice_get s.slots slot)
value_loads_other s _ = false

abbrev pub loads_other : State → Instr → Bool
loads_other s (Values i) = value_loads_other s i
loads_other s _ = false

abbrev pub some_slots_fail : Code → Here → Bool
some_slots_fail code h =
    at_start (slots_fail (map_at code h.place) (start_of code h.block.number)) h
    || (slots_fail (entered code h.instr) h.before || some_next code (λ t. slots_fail (map_at code t) h.after) h)

abbrev pub kind_fails : Code → Here → Bool
kind_fails code h = (clashes (wants code.declared h.before.desk h.instr) h.before.stack || loads_other h.before h.instr)
    || some_slots_fail code h

-- a loaded slot may be unset

abbrev pub value_loads_free : State → ValueInstr → Bool
value_loads_free s (Load kind slot) = is_free (slice_get s.slots slot)
value_loads_free s _ = false

abbrev pub loads_free : State → Instr → Bool
loads_free s (Values i) = value_loads_free s i
loads_free s _ = false

-- the work area that has to be open isn't known to be

abbrev pub closed_fails : Here → Bool
closed_fails h = fails_if_named (λ n. is_none (open_at h.before.desk n)) (area_of h.before.desk h.instr)

-- a list or filter is of another table than the one that it is meant for; work areas aren't covered

abbrev pub is_other_list : Declared → ℕ → ℕ → Bool
is_other_list d table list = not (is_none (list_of d list)) && not (is_list_of d table list)

abbrev pub is_other_filter : Declared → ℕ → ℕ → Bool
is_other_filter d table filter = not (is_none (filter_of d filter)) && not (is_filter_of d table filter)

abbrev pub declares_table : Declared → ℕ → Bool
declares_table d table = nat_lt table (length d.shape.tables)

abbrev pub fails_if_open : (OpenArea → Bool) → Option OpenArea → Bool
fails_if_open fails None = false
fails_if_open fails (Some a) = fails a

abbrev pub selected_in : Desk → Option OpenArea
selected_in desk = open_at desk desk.selected

abbrev pub area_is_other : Declared → Desk → AreaInstr → Bool
area_is_other d desk (Open t l) = declares_table d t && is_other_list d t l
area_is_other d desk (Filter n) = fails_if_open (λ a. is_other_filter d a.table n) (selected_in desk)
area_is_other d desk _ = false

-- a list of several indexes, or of another table
abbrev pub is_no_index : Declared → Desk → ℕ → Bool
is_no_index d desk list = nat_lt 1 (opened_by d list)
    || fails_if_open (λ a. is_other_list d a.table list) (selected_in desk)

abbrev pub record_is_other : Declared → Desk → RecordInstr → Bool
record_is_other d desk (Index l) = is_no_index d desk l
record_is_other d desk _ = false

abbrev pub names_other : Declared → Desk → Instr → Bool
names_other d desk (Areas i) = area_is_other d desk i
names_other d desk (Records i) = record_is_other d desk i
names_other d desk _ = false

abbrev pub some_desk_fails : Code → Here → Bool
some_desk_fails code h =
    at_start (desk_fails (map_at code h.place) (start_of code h.block.number)) h
    || (desk_fails (entered code h.instr) h.before || some_next code (λ t. desk_fails (map_at code t) h.after) h)

abbrev pub table_fails : Code → Here → Bool
table_fails code h = names_other code.declared h.before.desk h.instr || some_desk_fails code h

-- the work area has no such order, or none to seek by

abbrev pub area_order_fails : Declared → Desk → AreaInstr → Bool
area_order_fails d desk (Order n) = fails_if_open (λ a. nat_lt (opened_by d a.list) n) (selected_in desk)
area_order_fails d desk _ = false

abbrev pub move_order_fails : Desk → MoveInstr → Bool
move_order_fails desk Seek = fails_if_open (λ a. a.order == 0) (selected_in desk)
move_order_fails desk _ = false

abbrev pub order_fails : Declared → Desk → Instr → Bool
order_fails d desk (Areas i) = area_order_fails d desk i
order_fails d desk (Moves i) = move_order_fails desk i
order_fails d desk _ = false

-- another work area than the selected one holds the table, or may hold it

abbrev pub may_hold : ℕ → AreaState → Bool
may_hold table Closed = false
may_hold table (IsOpen a) = a.table == table
may_hold table Unsure = true

-- the areas from this number on
abbrev pub others_hold : ℕ → ℕ → ℕ → List AreaState → Bool
others_hold table selected number [] = false
others_hold table selected number (a ∷ areas) =
    (not (number == selected) && may_hold table a) || others_hold table selected (number + 1) areas

abbrev pub area_opens_twice : Desk → AreaInstr → Bool
area_opens_twice desk (Open t l) = others_hold t desk.selected 1 desk.areas
area_opens_twice desk _ = false

abbrev pub opens_twice : Desk → Instr → Bool
opens_twice desk (Areas i) = area_opens_twice desk i
opens_twice desk _ = false

-- fewer values than are taken; more than the bound afterwards

abbrev pub under_fails : Here → Bool
under_fails h = nat_lt (length h.before.stack) (signature h.instr).taken

abbrev pub height_after : ℕ → Instr → ℕ
height_after height i = height - (signature i).taken + (signature i).adds

abbrev pub over_fails : Code → Here → Bool
over_fails code h = nat_lt code.declared.stack_bound (height_after (length h.before.stack) h.instr)

-- values are left where none may be; the stack isn't covered

abbrev pub leaves_values : Here → Bool
leaves_values h = (signature h.instr).empties && not (length h.before.stack - (signature h.instr).taken == 0)

abbrev pub some_stack_fails : Code → Here → Bool
some_stack_fails code h =
    at_start (stack_fails 0 (map_at code h.place) (start_of code h.block.number)) h
    || (stack_fails 0 (entered code h.instr) h.before
    || some_next code (λ t. stack_fails (unknown (gives code.declared h.before.desk h.instr))
    (map_at code t) h.after) h)

abbrev pub empty_fails : Code → Here → Bool
empty_fails code h = leaves_values h || some_stack_fails code h

-- a jump out of the block, or to a place without a map

abbrev pub is_outside : Block → ℕ → Bool
is_outside block place = nat_lt place block.first || nat_le block.end place

abbrev pub jump_fails : Code → Here → Bool
jump_fails code h = fails_if_named (λ t. is_outside h.block t || is_none (map_at code t)) (target_of h.instr)

-- in a procedure its end may be run over, or behind an instruction that doesn't go on there is a place of it without a
-- map

abbrev pub is_filters : Code → Block → Bool
is_filters code block = nat_le (length code.procedures) block.number

abbrev pub runs_over : Code → Here → Bool
runs_over code h =
    if (signature h.instr).falls then nat_le h.block.end (h.place + 1)
    else (nat_lt (h.place + 1) h.block.end && is_none (map_at code (h.place + 1)))

abbrev pub fall_fails : Code → Here → Bool
fall_fails code h = not (is_filters code h.block) && runs_over code h

-- in a procedure, a call of one whose level isn't below its own

abbrev pub level_of : Option Proc → ℕ
level_of None = 0
level_of (Some p) = p.level

abbrev pub not_below : ℕ → Option Proc → Bool
not_below level None = false
not_below level (Some p) = nat_le level p.level

abbrev pub level_fails : Code → Here → Bool
level_fails code h = not (is_filters code h.block)
    && fails_if_named
    (λ n. not_below (level_of (slice_get code.procedures h.block.number)) (slice_get code.procedures n))
    (call_of h.instr)

-- in a procedure, a return from another state than its exit state covers

abbrev pub is_flow_return : FlowInstr → Bool
is_flow_return Return = true
is_flow_return _ = false

abbrev pub returns : Instr → Bool
returns (Flow i) = is_flow_return i
returns _ = false

abbrev pub covers : State → State → Bool
covers m s = slots_covered m.slots s.slots && desk_covered m.desk s.desk && same_kinds m.stack s.stack

abbrev pub not_covered : Option Proc → State → Bool
not_covered None s = false
not_covered (Some p) s = not (covers p.exit s)

abbrev pub exit_fails : Code → Here → Bool
exit_fails code h = not (is_filters code h.block)
    && (returns h.instr && not_covered (slice_get code.procedures h.block.number) h.before)

-- a slot hasn't the kind that is needed there
abbrev pub lacks : List (Option Kind) → Need → Bool
lacks slots need = is_free (slice_get slots need.slot) || has_other need.kind (slice_get slots need.slot)

abbrev pub filter_lacks : List (Option Kind) → Option FilterItem → Bool
filter_lacks slots None = false
filter_lacks slots (Some f) = list_any (lacks slots) f.needs

-- a move under a filter whose needs aren't met
abbrev pub moves_blindly : Declared → State → Instr → Bool
moves_blindly d s i =
    (signature i).moves && fails_if_open (λ a. filter_lacks s.slots (filter_of d a.filter)) (selected_in s.desk)

abbrev pub record_is_rows : RecordInstr → Bool
record_is_rows (RowField f) = true
record_is_rows _ = false

abbrev pub is_rows : Instr → Bool
is_rows (Records i) = record_is_rows i
is_rows _ = false

-- what a filter's block may have

abbrev pub value_filters : ValueInstr → Bool
value_filters (Constant n) = true
value_filters (Load k s) = true
value_filters (Store k s) = false
value_filters (Unset s) = false
value_filters (Discard k) = false
value_filters (Function f) = true
value_filters Today = true
value_filters (Set x on) = false

abbrev pub question_filters : Question → Bool
question_filters Recno = true
question_filters Reccount = true
question_filters Eof = false
question_filters Bof = false
question_filters Found = false
question_filters Deleted = true

abbrev pub record_filters : RecordInstr → Bool
record_filters (RowField f) = true
record_filters (Ask q) = question_filters q
record_filters _ = false

abbrev pub filters : Instr → Bool
filters (Values i) = value_filters i
filters (Records i) = record_filters i
filters _ = false

-- just a truth value; a kind that isn't known may be one
abbrev pub leaves_truth : ℕ → List Kind → Bool
leaves_truth zero stack = same_kinds (OfLogical ∷ []) stack
leaves_truth (suc more) stack = length stack == 0

-- at the last place of a filter's block something else than a truth value is left
abbrev pub ends_untrue : Code → Here → Bool
ends_untrue code h =
    h.block.end == h.place + 1 && not (leaves_truth (unknown (gives code.declared h.before.desk h.instr)) h.after.stack)

abbrev pub filter_fails : Code → Here → Bool
filter_fails code h =
    if is_filters code h.block then (not (filters h.instr) || ends_untrue code h)
    else (moves_blindly code.declared h.before h.instr || is_rows h.instr)

-- an operand names nothing that is declared

abbrev pub value_undeclared : Declared → ValueInstr → Bool
value_undeclared d (Constant n) = nat_le (length d.constants) n
value_undeclared d (Load k s) = nat_le d.slots s
value_undeclared d (Store k s) = nat_le d.slots s
value_undeclared d (Unset s) = nat_le d.slots s
value_undeclared d _ = false

abbrev pub is_no_list : Declared → ℕ → Bool
is_no_list d list = is_none (list_of d list)

abbrev pub area_undeclared : Declared → AreaInstr → Bool
area_undeclared d (Open t l) = not (declares_table d t) || (not (l == 0) && is_no_list d l)
area_undeclared d (Filter n) = not (n == 0) && is_none (filter_of d n)
area_undeclared d _ = false

-- the area's table hasn't so many fields; of an area that isn't open nothing is said
abbrev pub no_field : Declared → Desk → ℕ → ℕ → Bool
no_field d desk area field = fails_if_open (λ a. nat_le (length (fields_at d (Some a))) field) (open_at desk area)

abbrev pub record_undeclared : Declared → Desk → RecordInstr → Bool
record_undeclared d desk (Field a f) = no_field d desk a f
record_undeclared d desk (RowField f) = no_field d desk desk.selected f
record_undeclared d desk (Replace f) = no_field d desk desk.selected f
record_undeclared d desk (Index l) = is_no_list d l
record_undeclared d desk _ = false

abbrev pub undeclared : Code → Desk → Instr → Bool
undeclared code desk (Values i) = value_undeclared code.declared i
undeclared code desk (Flow i) = fails_if_named (no_procedure code) (call_of (Flow i))
undeclared code desk (Areas i) = area_undeclared code.declared i
undeclared code desk (Records i) = record_undeclared code.declared desk i
undeclared code desk _ = false

-- ---- the first rule that fails

unfoldable pub refusal_of : Code → Here → Option Rule
refusal_of code h =
    if kind_fails code h then Some RuleKind else (
    if loads_free h.before h.instr then Some RuleUnset else (
    if closed_fails h then Some ClosedArea else (
    if table_fails code h then Some OtherTable else (
    if order_fails code.declared h.before.desk h.instr then Some NoOrder else (
    if opens_twice h.before.desk h.instr then Some OpenTwice else (
    if under_fails h then Some StackUnder else (
    if over_fails code h then Some StackOver else (
    if empty_fails code h then Some StackNotEmpty else (
    if jump_fails code h then Some RuleJump else (
    if fall_fails code h then Some Fall else (
    if level_fails code h then Some CallLevel else (
    if exit_fails code h then Some Exit else (
    if filter_fails code h then Some RuleFilter else (
    if undeclared code h.before.desk h.instr then Some RuleConstant else None))))))))))))))

-- what stands at a place
abbrev pub here_at : Code → ℕ → Here
here_at code place = record {
  place = place;
  block = block_at code place;
  instr = instr_at code place;
  before = state_at code place;
  after = flow code (instr_at code place) (state_at code place);
}

unfoldable pub refusal_at : Code → ℕ → Option Rule
refusal_at code place = refusal_of code (here_at code place)

-- no rule fails at any place
abbrev pub Accepted : Code → Type 0
Accepted code = (place : ℕ) → place < length code.instructions → refusal_at code place ≡ None

-- the least place at which a rule fails, and the least rule there
pub record FirstRefusal (code : Code) (rule : Rule) (at : ℕ) : Type 0 where
  pub within : at < length code.instructions
  pub here : refusal_at code at ≡ Some rule
  pub before : (place : ℕ) → place < at → refusal_at code place ≡ None
