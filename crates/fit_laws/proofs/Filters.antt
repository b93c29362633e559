-- The filter of the selected area can be asked with the world's slots.
use Rattle.std.proofs.Common.{◌≡◌, ℕ, zero, suc, Bool, true, false, not, ◌&&◌, ◌||◌, ◌==◌, List, [], ◌∷◌, length}
use Rattle.std.proofs.Common.{Option, Some, None, refl, subst}
use Rattle.std.specs.Prelude.{is_none, nat_lt, nat_le, slice_get}
use Rattle.std.specs.List.{list_all}
use Rattle.std.proofs.lemmas.Bool.{and_parts, and_from, not_from_true, not_from_false, not-false, eqb-true}
use Rattle.xvalue.specs.declared.kind.Kind.{Kind}
use Rattle.code_items.specs.declared.declared.Declared.{Declared}
use Rattle.code_items.specs.declared.declared.Filter.{Filter as FilterItem}
use Rattle.code_items.specs.declared.code.Code.{Code}
use Rattle.code_items.specs.declared.desk.OpenArea.{OpenArea}
use Rattle.code_items.specs.declared.desk.AreaState.{AreaState}
use Rattle.code_items.specs.declared.desk.AreaState.TheVariants.{Closed, Open as IsOpen, Unsure}
use Rattle.code_items.specs.declared.desk.Desk.{Desk}
use Rattle.code_items.specs.declared.state.State.{State}
use Rattle.code_items.specs.Declarations.{filter_of}
use Rattle.code_items.specs.Desks.{if_open as opened_of, open_at}
use Rattle.code_items.specs.Kinds.{slots_covered}
use Rattle.code_items.specs.States.{is_list_of, is_filter_of, filters_table, opened_by, is_open, is_area_state, is_desk}
use Rattle.code_items.specs.States.{is_state}
use Rattle.code_items.specs.declared.instr.ValueInstr.{ValueInstr}
use Rattle.code_items.specs.declared.instr.ValueInstr.TheVariants.{Constant, Load, Store, Unset, Discard, Function}
use Rattle.code_items.specs.declared.instr.ValueInstr.TheVariants.{Today, Set}
use Rattle.code_items.specs.declared.instr.FlowInstr.{FlowInstr}
use Rattle.code_items.specs.declared.instr.FlowInstr.TheVariants.{Jump, JumpFalse, Call, Return, End}
use Rattle.code_items.specs.declared.instr.ScreenInstr.{ScreenInstr}
use Rattle.code_items.specs.declared.instr.ScreenInstr.TheVariants.{NewLine, Print, Say, SayOn, Input, Line, Clear}
use Rattle.code_items.specs.declared.instr.AreaInstr.{AreaInstr}
use Rattle.code_items.specs.declared.instr.AreaInstr.TheVariants.{Open, Close, CloseAll, Select, Order, Filter}
use Rattle.code_items.specs.declared.instr.RecordInstr.{RecordInstr}
use Rattle.code_items.specs.declared.instr.RecordInstr.TheVariants.{Field, RowField, Ask, Append, Replace, Delete}
use Rattle.code_items.specs.declared.instr.RecordInstr.TheVariants.{Recall, Pack, Zap, Reindex, Index}
use Rattle.code_items.specs.declared.instr.Instr.{Instr}
use Rattle.code_items.specs.declared.instr.Instr.TheVariants.{Values, Flow, Screen, Areas, Moves, Records}
use Rattle.code_rules.specs.Signature.{signature, value_signature, flow_signature, screen_signature, area_signature}
use Rattle.code_rules.specs.Signature.{record_signature}
use Rattle.code_rules.specs.Flow.{left_by}
use Rattle.code_rules.specs.Rules.{fails_if_open, selected_in, filter_lacks, moves_blindly}
use Rattle.fit_laws.specs.FilterWalks.{BlockWalks, WalksWithNeeds}
use Rattle.run_steps.specs.Filters.{block_fails, block_sound, block_start, is_sound_filter, is_sound, instructions_of}
use Rattle.run_steps.specs.Faults.{moves_badly}
use Rattle.fit_laws.proofs.Covered.{Covered, selects}
use Rattle.fit_laws.proofs.Desks.{IsKnown}
use Rattle.fit_laws.proofs.Loads.{filter_met}

-- ---- a block that can be walked is sound

walk_sound : (code : Code) (instrs : List Instr) (s : State) → BlockWalks code s instrs
    → block_sound code s instrs ≡ true
walk_sound code [] s w = w
walk_sound code (i ∷ instrs) s w =
    and_from (not (block_fails code s i)) (block_sound code (left_by code i s) instrs)
    (not_from_false (block_fails code s i) w.0.sound)
    (walk_sound code instrs (left_by code i s) (subst (λ x. BlockWalks code x instrs) w.0.left w.1))

-- ---- a filter whose needs are met is sound

filter_sound : (code : Code) → WalksWithNeeds code → (known slots : List (Option Kind))
    → slots_covered known slots ≡ true → length slots ≡ code.declared.slots
    → (table n : ℕ) (o : Option FilterItem) → filter_of code.declared n ≡ o → filters_table table o ≡ true
    → filter_lacks known o ≡ false → is_sound_filter code slots n o ≡ true
filter_sound code walks known slots c l table n None e t f = absurd (cc)
filter_sound code walks known slots c l table n (Some item) e t f =
    let met = filter_met known slots c item f in
    and_from (not (filter_lacks slots (Some item)))
    (block_sound code (block_start item.table slots) (instructions_of code n (Some item)))
    (not_from_false (filter_lacks slots (Some item)) met)
    (walk_sound code (instructions_of code n (Some item)) (block_start item.table slots) (walks n item e slots l met))

-- none, or the second
or_else_by : (b x y : Bool) → (b || x) ≡ true → (x ≡ true → y ≡ true) → (b || y) ≡ true
or_else_by true x y e f = refl
or_else_by false x y e f = f e

number_sound : (code : Code) → WalksWithNeeds code → (known slots : List (Option Kind))
    → slots_covered known slots ≡ true → length slots ≡ code.declared.slots
    → (table n : ℕ) → (n == 0 || is_filter_of code.declared table n) ≡ true
    → filter_lacks known (filter_of code.declared n) ≡ false → is_sound code slots n ≡ true
number_sound code walks known slots c l table n e f =
    or_else_by (n == 0) (is_filter_of code.declared table n) (is_sound_filter code slots n (filter_of code.declared n))
    e
    (λ t. filter_sound code walks known slots c l table n (filter_of code.declared n) refl t f)

-- ---- the areas of a state that a code can hold

state_open : (d : Declared) (a : AreaState) → is_area_state d a ≡ true
    → fails_if_open (λ x. not (is_open d x)) (opened_of (Some a)) ≡ false
state_open d Closed e = refl
state_open d (IsOpen a) e = not_from_true (is_open d a) e
state_open d Unsure e = refl

areas_open : (d : Declared) (areas : List AreaState) (n : ℕ) → list_all (is_area_state d) areas ≡ true
    → fails_if_open (λ x. not (is_open d x)) (opened_of (slice_get areas n)) ≡ false
areas_open d [] n e = refl
areas_open d (a ∷ areas) zero e = state_open d a (and_parts (is_area_state d a) (list_all (is_area_state d) areas) e).0
areas_open d (a ∷ areas) (suc n) e =
    areas_open d areas n (and_parts (is_area_state d a) (list_all (is_area_state d) areas) e).1

desk_open : (d : Declared) (desk : Desk) (n : ℕ) → list_all (is_area_state d) desk.areas ≡ true
    → fails_if_open (λ x. not (is_open d x)) (open_at desk n) ≡ false
desk_open d desk zero e = refl
desk_open d desk (suc n) e = areas_open d desk.areas n e

desk_legal : (d : Declared) (desk : Desk) → is_desk d desk ≡ true → list_all (is_area_state d) desk.areas ≡ true
unfolding is_desk
desk_legal d desk e =
    (and_parts (nat_le 1 desk.selected && nat_le desk.selected 10 && length desk.areas == 10)
    (list_all (is_area_state d) desk.areas) e).1

pub record Legal (d : Declared) (s : State) : Type 0 where
  pub area : fails_if_open (λ x. not (is_open d x)) (selected_in s.desk) ≡ false
  pub slots : length s.slots ≡ d.slots

pub legal : (d : Declared) (s : State) → is_state d s ≡ true → Legal d s
unfolding is_state
legal d s e =
    let p = and_parts (is_desk d s.desk && length s.slots == d.slots) (nat_le (length s.stack) d.stack_bound) e in
    let q = and_parts (is_desk d s.desk) (length s.slots == d.slots) p.0 in
    record {
      area = desk_open d s.desk s.desk.selected (desk_legal d s.desk q.0);
      slots = eqb-true (length s.slots) d.slots q.1;
    }

-- ---- the selected area's filter

area_sound : (code : Code) → WalksWithNeeds code → (known slots : List (Option Kind)) → slots_covered known slots ≡ true
    → length slots ≡ code.declared.slots → (o : Option OpenArea)
    → fails_if_open (λ x. not (is_open code.declared x)) o ≡ false
    → fails_if_open (λ a. filter_lacks known (filter_of code.declared a.filter)) o ≡ false
    → fails_if_open (λ a. not (is_sound code slots a.filter)) o ≡ false
area_sound code walks known slots c l None legal' e = refl
area_sound code walks known slots c l (Some a) legal' e =
    let p =
    and_parts (nat_lt a.table (length code.declared.shape.tables)
    && (a.list == 0 || is_list_of code.declared a.table a.list) && nat_le a.order (opened_by code.declared a.list))
    (a.filter == 0 || is_filter_of code.declared a.table a.filter) (not-false (is_open code.declared a) legal') in
    not_from_true (is_sound code slots a.filter) (number_sound code walks known slots c l a.table a.filter p.1 e)

-- ---- instructions that move need the selected area open

value_stays : (i : ValueInstr) → (value_signature i).moves ≡ false
value_stays (Constant n) = refl
value_stays (Load k s) = refl
value_stays (Store k s) = refl
value_stays (Unset s) = refl
value_stays (Discard k) = refl
value_stays (Function f) = refl
value_stays Today = refl
value_stays (Set x on) = refl

flow_stays : (i : FlowInstr) → (flow_signature i).moves ≡ false
flow_stays (Jump p) = refl
flow_stays (JumpFalse p) = refl
flow_stays (Call n) = refl
flow_stays Return = refl
flow_stays End = refl

screen_stays : (i : ScreenInstr) → (screen_signature i).moves ≡ false
screen_stays NewLine = refl
screen_stays (Print k) = refl
screen_stays (Say k) = refl
screen_stays (SayOn k) = refl
screen_stays (Input k) = refl
screen_stays Line = refl
screen_stays Clear = refl

area_stays : (i : AreaInstr) → (area_signature i).moves ≡ false
area_stays (Open t l) = refl
area_stays Close = refl
area_stays CloseAll = refl
area_stays (Select a) = refl
area_stays (Order n) = refl
area_stays (Filter n) = refl

never : {b : Bool} (P : Type 0) → b ≡ false → b ≡ true → P
never P e f = absurd (cc)

record_moves : (desk : Desk) (i : RecordInstr) → (record_signature i).moves ≡ true → IsKnown desk (Records i)
    → is_none (selected_in desk) ≡ false
record_moves desk (Field a f) m e = absurd (cc)
record_moves desk (RowField f) m e = absurd (cc)
record_moves desk (Ask q) m e = e
record_moves desk Append m e = e
record_moves desk (Replace f) m e = e
record_moves desk Delete m e = e
record_moves desk Recall m e = e
record_moves desk Pack m e = e
record_moves desk Zap m e = e
record_moves desk Reindex m e = e
record_moves desk (Index l) m e = e

moves_open : (desk : Desk) (i : Instr) → (signature i).moves ≡ true → IsKnown desk i
    → is_none (selected_in desk) ≡ false
moves_open desk (Values i) m e = never _ (value_stays i) m
moves_open desk (Flow i) m e = never _ (flow_stays i) m
moves_open desk (Screen i) m e = never _ (screen_stays i) m
moves_open desk (Areas i) m e = never _ (area_stays i) m
moves_open desk (Moves i) m e = e
moves_open desk (Records i) m e = record_moves desk i m e

-- ---- the test of moves

-- a test behind another one that holds
behind_true : (b x y : Bool) → (b && x) ≡ false → (b ≡ true → x ≡ false → y ≡ false) → (b && y) ≡ false
behind_true true x y e f = f refl e
behind_true false x y e f = refl

moves_sound : (code : Code) (m s : State) → WalksWithNeeds code → is_state code.declared s ≡ true → Covered m s
    → (i : Instr) → IsKnown m.desk i → (signature i).moves ≡ true
    → fails_if_open (λ a. filter_lacks m.slots (filter_of code.declared a.filter)) (selected_in m.desk) ≡ false
    → fails_if_open (λ a. not (is_sound code s.slots a.filter)) (selected_in s.desk) ≡ false
moves_sound code m s walks ok c i known moves e =
    let l = legal code.declared s ok in
    let same = selects m.desk s.desk c.desk (moves_open m.desk i moves known) in
    area_sound code walks m.slots s.slots c.slots l.slots (selected_in s.desk) l.area
    (subst (λ o. fails_if_open (λ a. filter_lacks m.slots (filter_of code.declared a.filter)) o ≡ false) same e)

pub moves_well : (code : Code) (m s : State) → WalksWithNeeds code → is_state code.declared s ≡ true → Covered m s
    → (i : Instr) → IsKnown m.desk i → moves_blindly code.declared m i ≡ false → moves_badly code s i ≡ false
moves_well code m s walks ok c i known e =
    behind_true (signature i).moves
    (fails_if_open (λ a. filter_lacks m.slots (filter_of code.declared a.filter)) (selected_in m.desk))
    (fails_if_open (λ a. not (is_sound code s.slots a.filter)) (selected_in s.desk)) e
    (λ moves f. moves_sound code m s walks ok c i known moves f)
