-- How many slots and values there are behind an instruction, and where the run goes on.
use Rattle.std.proofs.Common.{◌≡◌, ℕ, ◌+◌, ◌-◌, ◌<◌, ◌≤◌, Bool, true, false, List, [], ◌∷◌, length, Option, Some, None}
use Rattle.std.proofs.Common.{refl, sym, subst, arith}
use Rattle.std.specs.Prelude.{not, ◌&&◌, nat_le, slice_get, IsSome}
use Rattle.std.proofs.lemmas.Bool.{leb-false}
use Rattle.std.proofs.lemmas.List.{length-set, length-drop}
use Rattle.xvalue.specs.declared.kind.Kind.{Kind}
use Rattle.xvalue.specs.declared.value.Value.{Value}
use Rattle.xvalue.specs.Answers.{answered}
use Rattle.xvalue.specs.Signature.{takes_of}
use Rattle.text_lines.specs.Lines.{next_line}
use Rattle.open_table.specs.Open.{OpenState, field_of}
use Rattle.work_area.specs.Areas.{area_table, here}
use Rattle.code_items.specs.declared.code.Code.{Code}
use Rattle.code_items.specs.declared.instr.Instr.{Instr}
use Rattle.code_items.specs.declared.instr.Instr.TheVariants.{Values, Flow, Screen, Areas, Moves, Records}
use Rattle.code_items.specs.declared.instr.ValueInstr.{ValueInstr}
use Rattle.code_items.specs.declared.instr.ValueInstr.TheVariants.{Constant, Load, Store, Unset, Discard, Function}
use Rattle.code_items.specs.declared.instr.ValueInstr.TheVariants.{Today, Set}
use Rattle.code_items.specs.declared.instr.FlowInstr.{FlowInstr}
use Rattle.code_items.specs.declared.instr.FlowInstr.TheVariants.{Jump, JumpFalse, Call, Return, End}
use Rattle.code_items.specs.declared.instr.ScreenInstr.{ScreenInstr}
use Rattle.code_items.specs.declared.instr.ScreenInstr.TheVariants.{NewLine, Print, Say, SayOn, Input, Line, Clear}
use Rattle.code_items.specs.declared.instr.AreaInstr.{AreaInstr}
use Rattle.code_items.specs.declared.instr.AreaInstr.TheVariants.{Open, Close, CloseAll, Select, Order, Filter}
use Rattle.code_items.specs.declared.instr.MoveInstr.{MoveInstr}
use Rattle.code_items.specs.declared.instr.MoveInstr.TheVariants.{Top, Bottom, Skip, Go, Seek}
use Rattle.code_items.specs.declared.instr.RecordInstr.{RecordInstr}
use Rattle.code_items.specs.declared.instr.RecordInstr.TheVariants.{Field, RowField, Ask, Append, Replace, Delete}
use Rattle.code_items.specs.declared.instr.RecordInstr.TheVariants.{Recall, Pack, Zap, Reindex, Index}
use Rattle.code_items.specs.Legal.{places_of}
use Rattle.code_rules.specs.Signature.{call_of, move_signature}
use Rattle.code_rules.specs.Rules.{fails_if_named, no_procedure, height_after}
use Rattle.run_values.specs.Tagged.{TaggedValues, HasOnTop, HoldsKind, pushed, dropped, loaded_value, stored_top}
use Rattle.run_steps.specs.World.{World, EnvState}
use Rattle.run_steps.specs.Control.{next_place, next_returns, finishes}
use Rattle.run_steps.specs.Effects.{top, answer, with_pushed, on_value, on_table, value_values, flow_values}
use Rattle.run_steps.specs.Effects.{screen_values, record_values, values_after}
use Rattle.run_steps.specs.Faults.{IsClear}
use Rattle.run_steps.specs.Needs.{Needs, ValueNeeds, ScreenNeeds, RecordNeeds}
use Rattle.run_laws.proofs.Tests.{first_no, is_there}

-- ---- slots

pushed_slots : (x : Option Value) (t : TaggedValues) → length (with_pushed x t).slots ≡ length t.slots
pushed_slots None t = refl
pushed_slots (Some v) t = refl

loaded_slots : (x : Option (Option Value)) (t : TaggedValues) → length (loaded_value x t).slots ≡ length t.slots
loaded_slots None t = refl
loaded_slots (Some None) t = refl
loaded_slots (Some (Some v)) t = refl

stored_slots : (s : ℕ) (vs : List Value) (t : TaggedValues) → length (stored_top s vs t).slots ≡ length t.slots
stored_slots s [] t = refl
stored_slots s (v ∷ vs) t = length-set t.slots s (Some v)

value_slots : (code : Code) (i : ValueInstr) (t : TaggedValues) (e : EnvState)
    → length (value_values code i t e).slots ≡ length t.slots
value_slots code (Constant n) t e = pushed_slots (slice_get code.declared.constants n) t
value_slots code (Load k s) t e = loaded_slots (slice_get t.slots s) t
value_slots code (Store k s) t e = stored_slots s t.stack t
value_slots code (Unset s) t e = length-set t.slots s None
value_slots code (Discard k) t e = refl
value_slots code (Function f) t e = refl
value_slots code Today t e = refl
value_slots code (Set x on) t e = refl

flow_slots : (i : FlowInstr) (t : TaggedValues) → length (flow_values i t).slots ≡ length t.slots
flow_slots (Jump p) t = refl
flow_slots (JumpFalse p) t = refl
flow_slots (Call n) t = refl
flow_slots Return t = refl
flow_slots End t = refl

on_value_slots : (x : Option Value) (t : TaggedValues) (f : Value → TaggedValues)
    → ((v : Value) → length (f v).slots ≡ length t.slots) → length (on_value x t f).slots ≡ length t.slots
on_value_slots None t f same = refl
on_value_slots (Some v) t f same = same v

on_table_slots : (x : Option OpenState) (t : TaggedValues) (f : OpenState → TaggedValues)
    → ((o : OpenState) → length (f o).slots ≡ length t.slots) → length (on_table x t f).slots ≡ length t.slots
on_table_slots None t f same = refl
on_table_slots (Some o) t f same = same o

screen_slots : (i : ScreenInstr) (t : TaggedValues) (e : EnvState) → length (screen_values i t e).slots ≡ length t.slots
screen_slots NewLine t e = refl
screen_slots (Print k) t e = refl
screen_slots (Say k) t e = refl
screen_slots (SayOn k) t e = refl
screen_slots (Input k) t e =
    on_value_slots (top t) t (λ old. pushed (answered old (next_line e.lines)) (dropped 1 t)) (λ v. refl)
screen_slots Line t e = refl
screen_slots Clear t e = refl

record_slots : (i : RecordInstr) (t : TaggedValues) (e : EnvState) → length (record_values i t e).slots ≡ length t.slots
record_slots (Field a f) t e = on_table_slots (area_table e.store a) t (λ o. pushed (field_of f o) t) (λ o. refl)
record_slots (RowField f) t e = refl
record_slots (Ask q) t e = on_table_slots (here e.store) t (λ o. pushed (answer q o) t) (λ o. refl)
record_slots Append t e = refl
record_slots (Replace f) t e = refl
record_slots Delete t e = refl
record_slots Recall t e = refl
record_slots Pack t e = refl
record_slots Zap t e = refl
record_slots Reindex t e = refl
record_slots (Index l) t e = refl

pub slots_stay : (code : Code) (i : Instr) (t : TaggedValues) (e : EnvState)
    → length (values_after code i t e).slots ≡ length t.slots
slots_stay code (Values i) t e = value_slots code i t e
slots_stay code (Flow i) t e = flow_slots i t
slots_stay code (Screen i) t e = screen_slots i t e
slots_stay code (Areas i) t e = refl
slots_stay code (Moves i) t e = refl
slots_stay code (Records i) t e = record_slots i t e

-- ---- the stack: what it takes is gone, and what it adds is there

dropped_height : (n : ℕ) (t : TaggedValues) → length (dropped n t).stack ≡ length t.stack - n + 0
dropped_height n t = omega (arith, length-drop n t.stack)

constant_height : (xs : List Value) (n : ℕ) (t : TaggedValues) → n < length xs
    → length (with_pushed (slice_get xs n) t).stack ≡ length t.stack - 0 + 1
constant_height xs n t lt =
    (let p = is_there xs n lt in subst (λ x. length (with_pushed x t).stack ≡ length t.stack - 0 + 1) (sym p.1)
    (omega arith))

loaded_height : (k : Kind) (x : Option (Option Value)) (t : TaggedValues) → HoldsKind k x
    → length (loaded_value x t).stack ≡ length t.stack - 0 + 1
loaded_height k None t h = absurd h
loaded_height k (Some None) t h = absurd h
loaded_height k (Some (Some v)) t h = omega arith

stored_height : (k : Kind) (s : ℕ) (vs : List Value) (t : TaggedValues) → HasOnTop (k ∷ []) vs
    → length (stored_top s vs t).stack ≡ length vs - 1 + 0
stored_height k s [] t h = absurd h
stored_height k s (v ∷ vs) t h = omega arith

value_height : (code : Code) (i : ValueInstr) (t : TaggedValues) (e : EnvState) → ValueNeeds code i t
    → length (value_values code i t e).stack ≡ height_after (length t.stack) (Values i)
value_height code (Constant n) t e h = constant_height code.declared.constants n t h.0
value_height code (Load k s) t e h = loaded_height k (slice_get t.slots s) t h.0
value_height code (Store k s) t e h = stored_height k s t.stack t h.0
value_height code (Unset s) t e h = omega arith
value_height code (Discard k) t e h = dropped_height 1 t
value_height code (Function f) t e h = omega (arith, length-drop (length (takes_of f)) t.stack)
value_height code Today t e h = omega arith
value_height code (Set x on) t e h = omega arith

flow_height : (i : FlowInstr) (t : TaggedValues)
    → length (flow_values i t).stack ≡ height_after (length t.stack) (Flow i)
flow_height (Jump p) t = omega arith
flow_height (JumpFalse p) t = dropped_height 1 t
flow_height (Call n) t = omega arith
flow_height Return t = omega arith
flow_height End t = omega arith

input_height : (k : Kind) (vs : List Value) (t : TaggedValues) (f : Value → Value) → HasOnTop (k ∷ []) vs
    → 1 ≤ length t.stack
    → length (on_value (slice_get vs 0) t (λ old. pushed (f old) (dropped 1 t))).stack ≡ length t.stack - 1 + 1
input_height k [] t f h le = absurd h
input_height k (v ∷ vs) t f h le = omega (arith, length-drop 1 t.stack, le)

some_value : (k : Kind) (vs : List Value) → HasOnTop (k ∷ []) vs → 1 ≤ length vs
some_value k [] h = absurd h
some_value k (v ∷ vs) h = omega arith

screen_height : (i : ScreenInstr) (t : TaggedValues) (e : EnvState) → ScreenNeeds i t
    → length (screen_values i t e).stack ≡ height_after (length t.stack) (Screen i)
screen_height NewLine t e h = omega arith
screen_height (Print k) t e h = dropped_height 1 t
screen_height (Say k) t e h = dropped_height 3 t
screen_height (SayOn k) t e h = dropped_height 1 t
screen_height (Input k) t e h =
    input_height k t.stack t (λ old. answered old (next_line e.lines)) h.0 (some_value k t.stack h.0)
screen_height Line t e h = omega arith
screen_height Clear t e h = omega arith

move_height : (i : MoveInstr) (t : TaggedValues)
    → length (dropped (move_signature i).taken t).stack ≡ height_after (length t.stack) (Moves i)
move_height Top t = dropped_height 0 t
move_height Bottom t = dropped_height 0 t
move_height Skip t = dropped_height 1 t
move_height Go t = dropped_height 1 t
move_height Seek t = dropped_height 1 t

asked_height : (x : Option OpenState) (t : TaggedValues) (f : OpenState → Value) → IsSome x
    → length (on_table x t (λ o. pushed (f o) t)).stack ≡ length t.stack - 0 + 1
asked_height None t f h = absurd (cc)
asked_height (Some o) t f h = omega arith

record_height : (code : Code) (i : RecordInstr) (t : TaggedValues) (e : EnvState) → RecordNeeds code i t e
    → length (record_values i t e).stack ≡ height_after (length t.stack) (Records i)
record_height code (Field a f) t e h = asked_height (area_table e.store a) t (field_of f) (h.2).0
record_height code (RowField f) t e h = absurd h
record_height code (Ask q) t e h = asked_height (here e.store) t (answer q) h.0
record_height code Append t e h = omega arith
record_height code (Replace f) t e h = dropped_height 1 t
record_height code Delete t e h = omega arith
record_height code Recall t e h = omega arith
record_height code Pack t e h = omega arith
record_height code Zap t e h = omega arith
record_height code Reindex t e h = omega arith
record_height code (Index l) t e h = omega arith

area_height : (i : AreaInstr) (n : ℕ) → n ≡ height_after n (Areas i)
area_height (Open t l) n = omega arith
area_height Close n = omega arith
area_height CloseAll n = omega arith
area_height (Select a) n = omega arith
area_height (Order k) n = omega arith
area_height (Filter k) n = omega arith

pub height_is : (code : Code) (i : Instr) (t : TaggedValues) (e : EnvState) → Needs code i t e
    → length (values_after code i t e).stack ≡ height_after (length t.stack) i
height_is code (Values i) t e h = value_height code i t e h
height_is code (Flow i) t e h = flow_height i t
height_is code (Screen i) t e h = screen_height i t e h
height_is code (Areas i) t e h = area_height i (length t.stack)
height_is code (Moves i) t e h = move_height i t
height_is code (Records i) t e h = record_height code i t e h

-- ---- places

three_no : (a b c : Bool) → a ≡ false → b ≡ false → not a && not b && c ≡ false → c ≡ false
three_no false false c f g h = h
three_no false true c f g h = absurd (cc)
three_no true b c f g h = absurd (cc)

calls_one : (code : Code) (w : World) (i : Instr) → IsClear code w i
    → fails_if_named (no_procedure code) (call_of i) ≡ false
calls_one code w (Values i) c = refl
calls_one code w (Flow i) c = first_no (fails_if_named (no_procedure code) (call_of (Flow i))) false c.declared
calls_one code w (Screen i) c = refl
calls_one code w (Areas i) c = refl
calls_one code w (Moves i) c = refl
calls_one code w (Records i) c = refl

pub goes_within : (code : Code) (w : World) (i : Instr) → IsClear code w i → finishes w i ≡ false
    → next_place code w i < places_of code.procedures
goes_within code w i c e =
    leb-false (places_of code.procedures) (next_place code w i)
    (three_no (finishes w i) (fails_if_named (no_procedure code) (call_of i))
    (nat_le (places_of code.procedures) (next_place code w i)) e (calls_one code w i c) c.jump)

pub few_calls : (code : Code) (w : World) (i : Instr) → length w.returns ≤ 20 → IsClear code w i
    → length (next_returns w i) ≤ 20
few_calls code w (Values i) le c = le
few_calls code w (Flow (Jump p)) le c = le
few_calls code w (Flow (JumpFalse p)) le c = le
few_calls code w (Flow (Call n)) le c = (let lt = leb-false 20 (length w.returns) c.deep in omega (arith, lt))
few_calls code w (Flow Return) le c = omega (arith, le, length-drop 1 w.returns)
few_calls code w (Flow End) le c = le
few_calls code w (Screen i) le c = le
few_calls code w (Areas i) le c = le
few_calls code w (Moves i) le c = le
few_calls code w (Records i) le c = le
