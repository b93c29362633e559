-- All tests of an instruction that keeps the rules, in a world that fits what is known.
use Rattle.std.proofs.Common.{◌≡◌, ◌<◌, ℕ, true, false, ◌||◌, length, Option, Some, None, refl, sym, ◌∙◌, subst}
use Rattle.std.specs.Prelude.{nat_lt, nat_le}
use Rattle.std.proofs.lemmas.Bool.{or_parts, or_from, lt-leb}
use Rattle.std.proofs.lemmas.Option.{slice_get_within}
use Rattle.code_items.specs.declared.code.Code.{Code}
use Rattle.code_items.specs.declared.state.State.{State}
use Rattle.code_items.specs.declared.instr.AreaInstr.TheVariants.{Open, Close, CloseAll, Select, Order, Filter}
use Rattle.code_items.specs.declared.instr.Instr.{Instr}
use Rattle.code_items.specs.declared.instr.Instr.TheVariants.{Values, Flow, Screen, Areas, Moves, Records}
use Rattle.code_items.specs.Kinds.{clashes}
use Rattle.code_items.specs.States.{is_state}
use Rattle.code_rules.specs.Signature.{signature, call_of}
use Rattle.code_rules.specs.Wants.{wants}
use Rattle.code_rules.specs.Places.{instr_at, state_at, block_at}
use Rattle.code_rules.specs.Kept.{Kept}
use Rattle.code_rules.specs.Rules.{Here, here_at, fails_if_named, names_other, some_desk_fails, some_slots_fail}
use Rattle.code_rules.specs.Rules.{filter_fails, is_filters, moves_blindly, is_rows, loads_other, loads_free}
use Rattle.code_rules.specs.Rules.{undeclared, order_fails, opens_twice, height_after}
use Rattle.fit_laws.specs.Connects.{IsOfProcedures, Connects}
use Rattle.fit_laws.specs.FilterWalks.{WalksWithNeeds}
use Rattle.run_steps.specs.World.{World, state_of}
use Rattle.run_steps.specs.Faults.{wrong_kind, closed_area, empty_stack, stack_over, deep_call, bad_field, bad_filter}
use Rattle.run_steps.specs.Faults.{lists_other, filters_other, moves_badly, IsClear}
use Rattle.fit_laws.specs.Fits.{HasRoomToCall, ReturnsWithin, IsFitting}
use Rattle.fit_laws.proofs.Covered.{Covered, covered, Desks}
use Rattle.fit_laws.proofs.Desks.{IsKnown, known_too, wants_same, order_same, once, declared_same, record_other_same}
use Rattle.fit_laws.proofs.Desks.{area_other_same}
use Rattle.fit_laws.proofs.Filters.{moves_well}
use Rattle.fit_laws.proofs.Jumps.{jumps_within}
use Rattle.fit_laws.proofs.Loads.{LoadsWell, loads_well}

-- ---- lists and filters of another table, of which one rule speaks and two tests

lists_well : (code : Code) (m s : State) → Desks m.desk s.desk → (i : Instr) → IsKnown m.desk i
    → names_other code.declared m.desk i ≡ false → lists_other code.declared s.desk i ≡ false
lists_well code m s c (Values i) k e = refl
lists_well code m s c (Flow i) k e = refl
lists_well code m s c (Screen i) k e = refl
lists_well code m s c (Areas (Open t l)) k e = e
lists_well code m s c (Areas Close) k e = refl
lists_well code m s c (Areas CloseAll) k e = refl
lists_well code m s c (Areas (Select a)) k e = refl
lists_well code m s c (Areas (Order n)) k e = refl
lists_well code m s c (Areas (Filter n)) k e = refl
lists_well code m s c (Moves i) k e = refl
lists_well code m s c (Records i) k e = sym (record_other_same code.declared m.desk s.desk c i k) ∙ e

filters_well : (code : Code) (m s : State) → Desks m.desk s.desk → (i : Instr) → IsKnown m.desk i
    → names_other code.declared m.desk i ≡ false → filters_other code.declared s.desk i ≡ false
filters_well code m s c (Values i) k e = refl
filters_well code m s c (Flow i) k e = refl
filters_well code m s c (Screen i) k e = refl
filters_well code m s c (Areas (Open t l)) k e = refl
filters_well code m s c (Areas Close) k e = refl
filters_well code m s c (Areas CloseAll) k e = refl
filters_well code m s c (Areas (Select a)) k e = refl
filters_well code m s c (Areas (Order n)) k e = refl
filters_well code m s c (Areas (Filter n)) k e = sym (area_other_same code.declared m.desk s.desk c (Filter n) k) ∙ e
filters_well code m s c (Moves i) k e = refl
filters_well code m s c (Records i) k e = refl

-- ---- calls

some_below : (o : Option ℕ) (height : ℕ) → ((n : ℕ) → o ≡ Some n → height < 20)
    → fails_if_named (λ n. nat_le 20 height) o ≡ false
some_below None height h = refl
some_below (Some n) height h = lt-leb 20 height (h n refl)

calls_well : (w : World) (i : Instr) → HasRoomToCall w i → deep_call w i ≡ false
calls_well w i h = some_below (call_of i) (length w.returns) h

-- ---- the rules of an instruction of a procedure

pub record Rules (code : Code) (m : State) (i : Instr) : Type 0 where
  pub kind : clashes (wants code.declared m.desk i) m.stack ≡ false
  pub loads : LoadsWell m i
  pub known : IsKnown m.desk i
  pub table : names_other code.declared m.desk i ≡ false
  pub order : order_fails code.declared m.desk i ≡ false
  pub once : opens_twice m.desk i ≡ false
  pub there : nat_lt (length m.stack) (signature i).taken ≡ false
  pub room : nat_lt code.declared.stack_bound (height_after (length m.stack) i) ≡ false
  pub moves : moves_blindly code.declared m i ≡ false
  pub rows : is_rows i ≡ false
  pub declared : undeclared code m.desk i ≡ false

filter_rule : (code : Code) (h : Here) → is_filters code h.block ≡ false → filter_fails code h ≡ false
    → (moves_blindly code.declared h.before h.instr || is_rows h.instr) ≡ false
filter_rule code h e f = rw e at f

pub rules : (code : Code) (h : Here) → is_filters code h.block ≡ false → Kept code h → Rules code h.before h.instr
rules code h o k =
    let a =
    or_parts (clashes (wants code.declared h.before.desk h.instr) h.before.stack || loads_other h.before h.instr)
    (some_slots_fail code h) k.kind in
    let b =
    or_parts (clashes (wants code.declared h.before.desk h.instr) h.before.stack) (loads_other h.before h.instr)
    a.0 in
    let t = or_parts (names_other code.declared h.before.desk h.instr) (some_desk_fails code h) k.table in
    let f = or_parts (moves_blindly code.declared h.before h.instr) (is_rows h.instr) (filter_rule code h o k.filter) in
    record {
      kind = b.0;
      loads = record { other = b.1; set = k.set };
      known = k.area;
      table = t.0;
      order = k.order;
      once = k.once;
      there = k.there;
      room = k.room;
      moves = f.0;
      rows = f.1;
      declared = k.declared;
    }

-- ---- the tests of a state that is covered

record Passes (code : Code) (s : State) (i : Instr) : Type 0 where
  pub kind : wrong_kind code s i ≡ false
  pub set : loads_free s i ≡ false
  pub area : closed_area s i ≡ false
  pub there : empty_stack s i ≡ false
  pub room : stack_over code s i ≡ false
  pub order : order_fails code.declared s.desk i ≡ false
  pub once : opens_twice s.desk i ≡ false
  pub declared : bad_field code s i ≡ false
  pub filter : bad_filter code s i ≡ false

passes : (code : Code) (m s : State) (i : Instr) → WalksWithNeeds code → is_state code.declared s ≡ true → Covered m s
    → Rules code m i → Passes code s i
passes code m s i walks ok c r =
    let l = loads_well m s c.slots i r.loads in
    let k : clashes (wants code.declared s.desk i) m.stack ≡ false =
    subst (λ kinds. clashes kinds m.stack ≡ false) (wants_same code.declared m.desk s.desk c.desk i r.known)
    r.kind in
    record {
      kind =
          or_from (clashes (wants code.declared s.desk i) s.stack) (loads_other s i)
          (subst (λ stack. clashes (wants code.declared s.desk i) stack ≡ false) c.stack k) l.other;
      set = l.set;
      area = known_too m.desk s.desk c.desk i r.known;
      there = subst (λ stack. nat_lt (length stack) (signature i).taken ≡ false) c.stack r.there;
      room = subst (λ stack. nat_lt code.declared.stack_bound (height_after (length stack) i) ≡ false) c.stack r.room;
      order = sym (order_same code.declared m.desk s.desk c.desk i r.known) ∙ r.order;
      once = once m.desk s.desk c.desk i r.once;
      declared =
          or_from (undeclared code s.desk i) (lists_other code.declared s.desk i)
          (sym (declared_same code m.desk s.desk c.desk i r.known r.rows) ∙ r.declared)
          (lists_well code m s c.desk i r.known r.table);
      filter = or_from (is_rows i) (filters_other code.declared s.desk i || moves_badly code s i) r.rows
          (or_from (filters_other code.declared s.desk i) (moves_badly code s i)
          (filters_well code m s c.desk i r.known r.table) (moves_well code m s walks ok c i r.known r.moves));
    }

-- ---- the world

pub outside : (code : Code) → Connects code → (place : ℕ) → IsOfProcedures code place
    → is_filters code (block_at code place) ≡ false
outside code c place lt =
    let p = c.stands place lt in
    lt-leb (length code.procedures) (block_at code place).number
    (slice_get_within code.procedures (block_at code place).number p.procedure p.is)

pub is_clear : (code : Code) (w : World) → Connects code → WalksWithNeeds code → Kept code (here_at code w.place)
    → IsFitting code w → HasRoomToCall w (instr_at code w.place) → ReturnsWithin code w
    → IsClear code w (instr_at code w.place)
is_clear code w c walks k f room returns =
    let r : Rules code (state_at code w.place) (instr_at code w.place) =
    rules code (here_at code w.place) (outside code c w.place f.shape.place) k in
    let p =
    passes code (state_at code w.place) (state_of w) (instr_at code w.place) walks f.shape.state
    (covered (state_at code w.place) (state_of w) f.fits) r in
    record {
      kind = p.kind;
      set = p.set;
      area = p.area;
      there = p.there;
      room = p.room;
      jump = jumps_within code c w f.shape.place returns;
      order = p.order;
      once = p.once;
      deep = calls_well w (instr_at code w.place) room;
      declared = p.declared;
      filter = p.filter;
    }
