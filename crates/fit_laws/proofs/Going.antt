-- Where a step leads, the world fits what is known.
use Rattle.std.proofs.Common.{◌≡◌, ◌<◌, ℕ, ◌+◌, true, false, ◌&&◌, ◌==◌, List, [], ◌∷◌, ◌++◌, length, drop, Option}
use Rattle.std.proofs.Common.{Some, refl, sym, subst, arith}
use Rattle.std.specs.Prelude.{is_none, slice_get, unwrap_or}
use Rattle.std.proofs.lemmas.Bool.{and_parts, and_from}
use Rattle.xvalue.specs.declared.kind.Kind.{Kind}
use Rattle.xvalue.proofs.KindLemmas.{kinds_same}
use Rattle.work_area.specs.Areas.{AreApart}
use Rattle.code_items.specs.declared.code.Code.{Code}
use Rattle.code_items.specs.declared.code.Proc.{Proc}
use Rattle.code_items.specs.declared.state.State.{State}
use Rattle.code_items.specs.Desks.{desk_covered, open_at}
use Rattle.code_items.specs.Facts.{Facts}
use Rattle.code_items.specs.Instrs.{is_instr}
use Rattle.code_items.specs.Kinds.{same_kinds, slots_covered}
use Rattle.code_items.specs.declared.instr.ValueInstr.{ValueInstr}
use Rattle.code_items.specs.declared.instr.FlowInstr.{FlowInstr}
use Rattle.code_items.specs.declared.instr.FlowInstr.TheVariants.{Jump, JumpFalse, Call, Return, End}
use Rattle.code_items.specs.declared.instr.ScreenInstr.{ScreenInstr}
use Rattle.code_items.specs.declared.instr.AreaInstr.{AreaInstr}
use Rattle.code_items.specs.declared.instr.AreaInstr.TheVariants.{Open, Close, CloseAll, Select, Order, Filter}
use Rattle.code_items.specs.declared.instr.MoveInstr.{MoveInstr}
use Rattle.code_items.specs.declared.instr.RecordInstr.{RecordInstr}
use Rattle.code_items.specs.declared.instr.Instr.{Instr}
use Rattle.code_items.specs.declared.instr.Instr.TheVariants.{Values, Flow, Screen, Areas, Moves, Records}
use Rattle.code_rules.specs.Signature.{signature, area_signature, move_signature, target_of, call_of}
use Rattle.code_rules.specs.Wants.{gives, known}
use Rattle.code_rules.specs.Flow.{flow, left_by, slots_after, desk_after}
use Rattle.code_rules.specs.Kept.{KeepsRules}
use Rattle.code_rules.specs.Places.{instr_at, state_at}
use Rattle.code_rules.specs.Rules.{covers, here_at, returns as is_return}
use Rattle.fit_laws.specs.Connects.{IsOfProcedures, Connects}
use Rattle.run_values.specs.Tagged.{TaggedValues}
use Rattle.run_steps.specs.World.{World, state_of, desk_of}
use Rattle.run_steps.specs.Control.{entry_place, is_false, finishes, effect}
use Rattle.run_steps.specs.Effects.{top, values_after, env_after}
use Rattle.run_steps.specs.Faults.{IsClear}
use Rattle.run_steps.specs.Needs.{Needs}
use Rattle.run_steps.specs.Shapes.{StoreFits, HasShape}
use Rattle.run_steps.proofs.Results.{ResultLaw}
use Rattle.run_laws.proofs.Known.{Known, known_of, OpenThere, open_there}
use Rattle.run_laws.proofs.Ready.{ready}
use Rattle.run_laws.proofs.Tests.{all_within}
use Rattle.fit_laws.specs.Fits.{Fits, procedure_at, Awaits, IsFitting}
use Rattle.fit_laws.proofs.Clear.{Rules, rules, outside}
use Rattle.fit_laws.proofs.Covered.{Covered, covered, Desks}
use Rattle.fit_laws.proofs.Covering.{stack_self}
use Rattle.fit_laws.proofs.Desks.{IsKnown}
use Rattle.fit_laws.proofs.DesksAfter.{desk_on, desks_covered}
use Rattle.fit_laws.proofs.Fields.{record_told}
use Rattle.fit_laws.proofs.Filters.{Legal, legal}
use Rattle.fit_laws.proofs.Jumps.{value_falls, screen_falls, area_falls, move_falls, record_falls, either}
use Rattle.fit_laws.proofs.Loads.{loads_well}
use Rattle.fit_laws.proofs.Returns.{exit_covered}
use Rattle.fit_laws.proofs.StoreDesks.{desk_is}
use Rattle.fit_laws.proofs.Values.{Tells, AnswerLaw, drop_told, holds, value_told, screen_told}
use Rattle.run_laws.proofs.Changes.{value_store, screen_store}

pub covers_made : (m s : State) → slots_covered m.slots s.slots ≡ true → desk_covered m.desk s.desk ≡ true
    → m.stack ≡ s.stack → covers m s ≡ true
covers_made m s a b c =
    and_from (slots_covered m.slots s.slots && desk_covered m.desk s.desk) (same_kinds m.stack s.stack)
    (and_from (slots_covered m.slots s.slots) (desk_covered m.desk s.desk) a b)
    (subst (λ ks. same_kinds m.stack ks ≡ true) c (stack_self m.stack))

desk_part : (m s : State) → covers m s ≡ true → desk_covered m.desk s.desk ≡ true
desk_part m s e =
    (and_parts (slots_covered m.slots s.slots) (desk_covered m.desk s.desk)
    (and_parts (slots_covered m.slots s.slots && desk_covered m.desk s.desk) (same_kinds m.stack s.stack) e).0).1

-- ---- what an instruction leaves

value_flow : (code : Code) (i : ValueInstr) (m : State) → flow code (Values i) m ≡ left_by code (Values i) m
unfolding flow
value_flow code i m = refl

screen_flow : (code : Code) (i : ScreenInstr) (m : State) → flow code (Screen i) m ≡ left_by code (Screen i) m
unfolding flow
screen_flow code i m = refl

area_flow : (code : Code) (i : AreaInstr) (m : State) → flow code (Areas i) m ≡ left_by code (Areas i) m
unfolding flow
area_flow code i m = refl

move_flow : (code : Code) (i : MoveInstr) (m : State) → flow code (Moves i) m ≡ left_by code (Moves i) m
unfolding flow
move_flow code i m = refl

record_flow : (code : Code) (i : RecordInstr) (m : State) → flow code (Records i) m ≡ left_by code (Records i) m
unfolding flow
record_flow code i m = refl

jump_flow : (code : Code) (p : ℕ) (m : State) → flow code (Flow (Jump p)) m ≡ m
unfolding flow
jump_flow code p m = refl

test_flow : (code : Code) (p : ℕ) (m : State) → flow code (Flow (JumpFalse p)) m ≡ left_by code (Flow (JumpFalse p)) m
unfolding flow
test_flow code p m = refl

-- covering goes on
abbrev pub CoverLaw : Type 0
CoverLaw = (a b c : State) → covers a b ≡ true → covers b c ≡ true → covers a c ≡ true

-- what is known at each place that a place leads to covers what flows there
record Goes (code : Code) (place : ℕ) (i : Instr) : Type 0 where
  pub falls : (signature i).falls ≡ true → covers (state_at code (place + 1)) (flow code i (state_at code place)) ≡ true
  pub jumps : (next : ℕ) → target_of i ≡ Some next
      → covers (state_at code next) (flow code i (state_at code place)) ≡ true
  pub calls : (n : ℕ) → call_of i ≡ Some n → covers (state_at code (entry_place code n)) (state_at code place) ≡ true
  pub returns : (p : Proc) → is_return i ≡ true → slice_get code.procedures (procedure_at code place) ≡ Some p
      → covers p.exit (state_at code place) ≡ true

goes : (code : Code) → CoverLaw → Connects code → (place : ℕ) → IsOfProcedures code place
    → Goes code place (instr_at code place)
goes code on c place lt = record {
  falls = λ f. (c.falls place lt f).covered;
  jumps = λ next e. (c.jumps place next lt e).covered;
  calls =
      λ n e. (let p = c.calls place n lt e in on (state_at code (entry_place code n)) p.procedure.entry
      (state_at code place) (c.enters n p.procedure p.is).covered p.covered);
  returns = λ p e is. c.returns place p lt e is;
}

-- ---- the world afterwards

tells : (m : State) (w : World) → Covered m (state_of w) → Tells m.slots m.stack w.values
tells m w c = record { slots_true = c.slots; stack_true = c.stack }

value_fits : (code : Code) → ResultLaw → (m : State) (w : World) → covers m (state_of w) ≡ true
    → Legal code.declared (state_of w) → (i : ValueInstr) → Rules code m (Values i)
    → covers (left_by code (Values i) m) (state_of (effect code w (Values i))) ≡ true
value_fits code law m w e l i r =
    let c = covered m (state_of w) e in
    let h = holds code w i l (loads_well m (state_of w) c.slots (Values i) r.loads) r.declared in
    let t = value_told code law m.slots m.stack w.values w.env i (tells m w c) r.kind r.there h in
    covers_made (left_by code (Values i) m) (state_of (effect code w (Values i))) t.slots_true
    (subst (λ s. desk_covered m.desk (desk_of s) ≡ true) (sym (value_store i w.env)) (desk_part m (state_of w) e))
    t.stack_true

screen_fits : (code : Code) → AnswerLaw → (m : State) (w : World) → covers m (state_of w) ≡ true → (i : ScreenInstr)
    → Rules code m (Screen i) → covers (left_by code (Screen i) m) (state_of (effect code w (Screen i))) ≡ true
screen_fits code law m w e i r =
    let c = covered m (state_of w) e in
    let t = screen_told law m.slots m.stack w.values w.env i (tells m w c) r.kind r.there in
    covers_made (left_by code (Screen i) m) (state_of (effect code w (Screen i))) t.slots_true
    (subst (λ s. desk_covered m.desk (desk_of s) ≡ true) (sym (screen_store i w.values w.env))
    (desk_part m (state_of w) e)) t.stack_true

test_fits : (code : Code) (m : State) (w : World) → covers m (state_of w) ≡ true → (p : ℕ)
    → covers (left_by code (Flow (JumpFalse p)) m) (state_of (effect code w (Flow (JumpFalse p)))) ≡ true
test_fits code m w e p =
    let c = covered m (state_of w) e in
    let t = drop_told 1 m.slots m.stack w.values (tells m w c) in
    covers_made (left_by code (Flow (JumpFalse p)) m) (state_of (effect code w (Flow (JumpFalse p)))) t.slots_true
    (desk_part m (state_of w) e) t.stack_true

-- ---- work areas and records

-- what is known of a world of the code's shape before an instruction whose tests come out well
pub record Before (code : Code) (w : World) (i : Instr) : Type 0 where
  pub clear : IsClear code w i
  pub needs : Needs code i w.values w.env
  pub known : Known code.declared (state_of w)
  pub store : StoreFits code.declared w.env.store
  pub apart : AreApart w.env.store.areas

pub before : ResultLaw → (code : Code) (w : World) (i : Instr) → Facts code → HasShape code w
    → AreApart w.env.store.areas → is_instr code.declared.version i ≡ true → IsClear code w i → Before code w i
before results code w i f h apart legal c =
    record {
      clear = c;
      needs = (ready kinds_same results code w i f h legal c).needs;
      known = known_of code.declared
          (state_of w) h.state;
      store = h.store;
      apart = apart;
    }

-- an area that is known to be open
there : (code : Code) (w : World) (i : Instr) → Before code w i → (a : ℕ)
    → is_none (open_at (desk_of w.env.store) a) ≡ false → OpenThere code.declared w.env.store a
there code w i b a e = open_there code.declared w.env.store a b.known.areas b.store e

area_told : (slots : List (Option Kind)) (stack : List Kind) (t : TaggedValues) (i : AreaInstr) → Tells slots stack t
    → Tells slots (drop (area_signature i).taken stack) t
area_told slots stack t (Open n l) h = h
area_told slots stack t Close h = h
area_told slots stack t CloseAll h = h
area_told slots stack t (Select a) h = h
area_told slots stack t (Order n) h = h
area_told slots stack t (Filter n) h = h

-- the work areas are as the instruction leaves what is known of them, and so are the values
changed_fits : (code : Code) (m : State) (w : World) → covers m (state_of w) ≡ true → (i : Instr) → IsKnown m.desk i
    → Before code w i
    → Tells (slots_after i m.slots) (known (gives code.declared m.desk i) ++ drop (signature i).taken m.stack)
    (values_after code i w.values w.env) → covers (left_by code i m) (state_of (effect code w i)) ≡ true
changed_fits code m w e i k b t =
    let c = covered m (state_of w) e in
    let is = desk_is code w i b.apart b.known.one b.known.ten b.clear b.needs (there code w i b w.env.store.selected) in
    covers_made (left_by code i m) (state_of (effect code w i)) t.slots_true
    (desks_covered (desk_after i m.desk) (desk_of (env_after code i w.values w.env).store)
    (subst (Desks (desk_after i m.desk)) (sym is) (desk_on m.desk (desk_of w.env.store) c.desk i k))) t.stack_true

area_fits : (code : Code) (m : State) (w : World) → covers m (state_of w) ≡ true → (i : AreaInstr)
    → Rules code m (Areas i) → Before code w (Areas i)
    → covers (left_by code (Areas i) m) (state_of (effect code w (Areas i))) ≡ true
area_fits code m w e i r b =
    changed_fits code m w e (Areas i) r.known b
    (area_told m.slots m.stack w.values i (tells m w (covered m (state_of w) e)))

move_fits : (code : Code) (m : State) (w : World) → covers m (state_of w) ≡ true → (i : MoveInstr)
    → Rules code m (Moves i) → Before code w (Moves i)
    → covers (left_by code (Moves i) m) (state_of (effect code w (Moves i))) ≡ true
move_fits code m w e i r b =
    changed_fits code m w e (Moves i) r.known b
    (drop_told (move_signature i).taken m.slots m.stack w.values (tells m w (covered m (state_of w) e)))

record_fits : (code : Code) (m : State) (w : World) → covers m (state_of w) ≡ true → (i : RecordInstr)
    → Rules code m (Records i) → Before code w (Records i)
    → covers (left_by code (Records i) m) (state_of (effect code w (Records i))) ≡ true
record_fits code m w e i r b =
    let c = covered m (state_of w) e in
    changed_fits code m w e (Records i) r.known b
    (record_told code m.desk w m.slots m.stack c.desk b.store (there code w (Records i) b) i r.known b.clear
    (tells m w c))

-- ---- the next place

through : (n m s : State) → CoverLaw → (flowed : State) → flowed ≡ m → covers n flowed ≡ true → covers m s ≡ true
    → covers n s ≡ true
through n m s on flowed e a b = on n m s (subst (λ x. covers n x ≡ true) e a) b

-- a return leads behind a call, where what is known covers the exit state of the procedure that was called
return_next : (code : Code) → CoverLaw → Connects code → (w : World) → IsOfProcedures code w.place → Fits code w
    → Goes code w.place (Flow Return) → (returns : List ℕ) → w.returns ≡ returns → length returns == 0 ≡ false
    → Awaits code (procedure_at code w.place) returns → Fits code (effect code w (Flow Return))
return_next code on c w lt f g [] e n h = absurd (cc)
return_next code on c w lt f g (next ∷ returns) e n h =
    let p = c.stands w.place lt in
    let back = exit_covered code c (procedure_at code w.place) next h.0 p.procedure p.is in
    let fitting =
    on (state_at code next) p.procedure.exit (state_of w) back
    (on p.procedure.exit (state_at code w.place) (state_of w) (g.returns p.procedure refl p.is) f) in
    subst (λ (x : List ℕ). covers (state_at code (unwrap_or (slice_get x 0) w.place)) (state_of w) ≡ true) (sym e)
    fitting

flow_next : (code : Code) → CoverLaw → Connects code → (w : World) → IsOfProcedures code w.place → Fits code w
    → (i : FlowInstr) → Goes code w.place (Flow i) → finishes w (Flow i) ≡ false
    → Awaits code (procedure_at code w.place) w.returns → Fits code (effect code w (Flow i))
flow_next code on c w lt f (Jump p) g e h =
    through (state_at code p) (state_at code w.place) (state_of w) on
    (flow code (Flow (Jump p)) (state_at code w.place)) (jump_flow code p (state_at code w.place)) (g.jumps p refl) f
flow_next code on c w lt f (JumpFalse p) g e h =
    let s = state_of (effect code w (Flow (JumpFalse p))) in
    let t = test_fits code (state_at code w.place) w f p in
    let l = test_flow code p (state_at code w.place) in
    either (λ n. covers (state_at code n) (state_of (effect code w (Flow (JumpFalse p)))) ≡ true)
    (is_false (top w.values)) p (w.place + 1)
    (through (state_at code p) (left_by code (Flow (JumpFalse p)) (state_at code w.place)) s on
    (flow code (Flow (JumpFalse p)) (state_at code w.place)) l (g.jumps p refl) t)
    (through (state_at code (w.place + 1)) (left_by code (Flow (JumpFalse p)) (state_at code w.place)) s on
    (flow code (Flow (JumpFalse p)) (state_at code w.place)) l (g.falls refl) t)
flow_next code on c w lt f (Call n) g e h =
    on (state_at code (entry_place code n)) (state_at code w.place) (state_of w) (g.calls n refl) f
flow_next code on c w lt f Return g e h = return_next code on c w lt f g w.returns refl e h
flow_next code on c w lt f End g e h = absurd (cc)

-- it goes on behind itself
falls_next : (code : Code) → CoverLaw → (w : World) (i : Instr) → Goes code w.place i → (signature i).falls ≡ true
    → flow code i (state_at code w.place) ≡ left_by code i (state_at code w.place)
    → covers (left_by code i (state_at code w.place)) (state_of (effect code w i)) ≡ true
    → covers (state_at code (w.place + 1)) (state_of (effect code w i)) ≡ true
falls_next code on w i g falls e fits =
    through (state_at code (w.place + 1)) (left_by code i (state_at code w.place)) (state_of (effect code w i)) on
    (flow code i (state_at code w.place)) e (g.falls falls) fits

next : (code : Code) → CoverLaw → ResultLaw → AnswerLaw → Connects code → (w : World) → IsOfProcedures code w.place
    → Fits code w → Legal code.declared (state_of w) → (i : Instr) → Rules code (state_at code w.place) i
    → Goes code w.place i → Before code w i
    → finishes w i ≡ false → Awaits code (procedure_at code w.place) w.returns → Fits code (effect code w i)
next code on results answers c w lt f l (Values i) r g b e h =
    falls_next code on w (Values i) g (value_falls i) (value_flow code i (state_at code w.place))
    (value_fits code results (state_at code w.place) w f l i r)
next code on results answers c w lt f l (Flow i) r g b e h = flow_next code on c w lt f i g e h
next code on results answers c w lt f l (Screen i) r g b e h =
    falls_next code on w (Screen i) g (screen_falls i) (screen_flow code i (state_at code w.place))
    (screen_fits code answers (state_at code w.place) w f i r)
next code on results answers c w lt f l (Areas i) r g b e h =
    falls_next code on w (Areas i) g (area_falls i) (area_flow code i (state_at code w.place))
    (area_fits code (state_at code w.place) w f i r b)
next code on results answers c w lt f l (Moves i) r g b e h =
    falls_next code on w (Moves i) g (move_falls i) (move_flow code i (state_at code w.place))
    (move_fits code (state_at code w.place) w f i r b)
next code on results answers c w lt f l (Records i) r g b e h =
    falls_next code on w (Records i) g (record_falls i) (record_flow code i (state_at code w.place))
    (record_fits code (state_at code w.place) w f i r b)

-- the instruction of a place is one that a code file can hold
pub legal_instr : (code : Code) → Facts code → (place : ℕ) → place < length code.instructions
    → is_instr code.declared.version (instr_at code place) ≡ true
legal_instr code f place lt = all_within (is_instr code.declared.version) code.instructions place (Flow End) f.legal lt

pub goes_on : (code : Code) → CoverLaw → ResultLaw → AnswerLaw → Connects code → KeepsRules code → Facts code
    → (w : World) → IsFitting code w → IsClear code w (instr_at code w.place)
    → finishes w (instr_at code w.place) ≡ false → Fits code (effect code w (instr_at code w.place))
goes_on code on results answers c keeps facts w f clear e =
    let lt : w.place < length code.instructions = omega (arith, f.shape.place, facts.places) in
    next code on results answers c w f.shape.place f.fits (legal code.declared (state_of w) f.shape.state)
    (instr_at code w.place) (rules code (here_at code w.place) (outside code c w.place f.shape.place)
    (keeps w.place lt))
    (goes code on c w.place f.shape.place)
    (before results code w (instr_at code w.place) facts f.shape f.apart (legal_instr code facts w.place lt) clear) e
    f.awaits
