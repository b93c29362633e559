-- From the rules at each place to what is known along the flow.
use Rattle.std.proofs.Common.{◌≡◌, ◌≤◌, ◌<◌, ℕ, ◌+◌, Bool, true, false, not, ◌||◌, ◌&&◌, ◌==◌, length, Option, Some}
use Rattle.std.proofs.Common.{None, refl, sym, ap, ◌∙◌, subst, arith}
use Rattle.std.specs.Prelude.{is_none, slice_get, nat_le, nat_lt}
use Rattle.std.proofs.lemmas.Bool.{or_parts, not-false, not_from_false, leb-false, ltb-false, lt-leb, eq-eqb}
use Rattle.code_items.specs.declared.code.Proc.{Proc}
use Rattle.code_items.specs.declared.code.Code.{Code}
use Rattle.code_items.specs.declared.state.State.{State}
use Rattle.code_items.specs.declared.instr.Instr.{Instr}
use Rattle.code_items.specs.Facts.{Facts}
use Rattle.code_items.specs.Legal.{IsCode}
use Rattle.code_rules.specs.Signature.{signature, target_of, call_of}
use Rattle.code_rules.specs.Wants.{gives, unknown}
use Rattle.code_rules.specs.Places.{instr_at, block_at, map_at, start_of, or_state, state_at}
use Rattle.code_rules.specs.Kept.{Kept, KeepsRules}
use Rattle.code_rules.specs.Rules.{Here, here_at, slots_fail, desk_fails, stack_fails, at_start, entry_in, entered}
use Rattle.code_rules.specs.Rules.{called_entry, some_next, fails_if_named, no_procedure, leads_on, is_outside}
use Rattle.code_rules.specs.Rules.{is_filters, runs_over, not_below, level_of, not_covered, moves_blindly, is_rows}
use Rattle.code_rules.specs.Rules.{covers, returns as is_return, kind_fails, table_fails, empty_fails, fall_fails}
use Rattle.code_rules.specs.Rules.{filter_fails}
use Rattle.run_laws.proofs.Tests.{then_no}
use Rattle.fit_laws.specs.Connects.{first_of, IsOfProcedures, InProcedure, Enters, left_at, Reaches, Calls, Connects}
use Rattle.fit_laws.proofs.Covering.{covers_from, covers_self}
use Rattle.fit_laws.proofs.Filtering.{filter_walks}
use Rattle.fit_laws.proofs.Giving.{gives_known, call_known}
use Rattle.fit_laws.proofs.States.{state_first, state_mapped, next_state}
use Rattle.fit_laws.proofs.Standing.{stands, number_within, together, first_is}

-- ---- small tests

abbrev Three : Bool → Bool → Bool → Type 0
Three a b c = (a ≡ false) × (b ≡ false) × (c ≡ false)

three : (x a b c : Bool) → (x || (a || (b || c))) ≡ false → Three a b c
three false false false false e = (refl, refl, refl)
three true a b c e = absurd (cc)
three false true b c e = absurd (cc)
three false false true c e = absurd (cc)
three false false false true e = absurd (cc)

and_not : (b c : Bool) → b ≡ true → c ≡ false → (b && not c) ≡ true
and_not b c e f = rw (e, f) refl

some_keeps : (fails : ℕ → Bool) (o : Option ℕ) (t : ℕ) → fails_if_named fails o ≡ false → o ≡ Some t → fails t ≡ false
some_keeps fails o t e h = rw h at e

-- ---- covering, by the three rules that speak of it

covered : (o : Option State) (s : State) → slots_fail o s ≡ false → desk_fails o s ≡ false → stack_fails 0 o s ≡ false
    → covers (or_state o s) s ≡ true
covered None s a b c = covers_self s
covered (Some m) s a b c = covers_from m s (not-false _ a) (not-false _ b) (not-false _ c)

covered_by : (m s : State) → slots_fail (Some m) s ≡ false → desk_fails (Some m) s ≡ false
    → stack_fails 0 (Some m) s ≡ false → covers m s ≡ true
covered_by m s a b c = covered (Some m) s a b c

-- ---- the rules at a place of a procedure

slots_shown : (code : Code) (h : Here) → kind_fails code h ≡ false
    → Three (at_start (slots_fail (map_at code h.place) (start_of code h.block.number)) h)
    (slots_fail (entered code h.instr) h.before) (some_next code (λ t. slots_fail (map_at code t) h.after) h)
slots_shown code h e = three _ _ _ _ e

desk_shown : (code : Code) (h : Here) → table_fails code h ≡ false
    → Three (at_start (desk_fails (map_at code h.place) (start_of code h.block.number)) h)
    (desk_fails (entered code h.instr) h.before) (some_next code (λ t. desk_fails (map_at code t) h.after) h)
desk_shown code h e = three _ _ _ _ e

stack_shown : (code : Code) (h : Here) → empty_fails code h ≡ false
    → unknown (gives code.declared h.before.desk h.instr) ≡ 0
    → Three (at_start (stack_fails 0 (map_at code h.place) (start_of code h.block.number)) h)
    (stack_fails 0 (entered code h.instr) h.before) (some_next code (λ t. stack_fails 0 (map_at code t) h.after) h)
stack_shown code h e known =
    subst (λ n. Three (at_start (stack_fails 0 (map_at code h.place) (start_of code h.block.number)) h)
    (stack_fails 0 (entered code h.instr) h.before) (some_next code (λ t. stack_fails n (map_at code t) h.after) h))
    known (three _ _ _ _ e)

outside : (code : Code) (place : ℕ) → IsOfProcedures code place → is_filters code (block_at code place) ≡ false
outside code place lt = lt-leb (length code.procedures) (block_at code place).number (number_within code place lt)

no_rows : (code : Code) (h : Here) → is_filters code h.block ≡ false → filter_fails code h ≡ false
    → is_rows h.instr ≡ false
no_rows code h e f = (or_parts (moves_blindly code.declared h.before h.instr) (is_rows h.instr) (rw e at f)).1

not_both : {b c : Bool} → b ≡ false → c ≡ true → b ≡ c → ⊥
not_both e f g = absurd (cc)

rows_are_filters : (i : Instr) (P : Type 0) → is_rows i ≡ false → is_rows i ≡ true → P
rows_are_filters i P e f = absurd (not_both e f refl)

-- what a place of a procedure keeps
record Shown (code : Code) (place : ℕ) : Type 0 where
  pub kept : Kept code (here_at code place)
  pub stands : InProcedure code place
  pub outside : is_filters code (block_at code place) ≡ false
  pub known : unknown (gives code.declared (state_at code place).desk (instr_at code place)) ≡ 0

shown : (code : Code) → Facts code → KeepsRules code → (place : ℕ) → IsOfProcedures code place → Shown code place
shown code facts keeps place lt =
    let k : Kept code (here_at code place) = keeps place (omega (arith, lt, facts.places)) in
    let o = outside code place lt in
    record {
      kept = k;
      stands = stands code place lt;
      outside = o;
      known =
          gives_known code (state_at code place).desk (instr_at code place) k.area k.declared
          (rows_are_filters (instr_at code place) _ (no_rows code (here_at code place) o k.filter));
    }

slots_rule : (code : Code) (place : ℕ) → Shown code place
    → Three
    (at_start (slots_fail (map_at code place) (start_of code (block_at code place).number)) (here_at code place))
    (slots_fail (entered code (instr_at code place)) (state_at code place))
    (some_next code (λ t. slots_fail (map_at code t) (left_at code place)) (here_at code place))
slots_rule code place s = slots_shown code (here_at code place) s.kept.kind

desk_rule : (code : Code) (place : ℕ) → Shown code place
    → Three
    (at_start (desk_fails (map_at code place) (start_of code (block_at code place).number)) (here_at code place))
    (desk_fails (entered code (instr_at code place)) (state_at code place))
    (some_next code (λ t. desk_fails (map_at code t) (left_at code place)) (here_at code place))
desk_rule code place s = desk_shown code (here_at code place) s.kept.table

stack_rule : (code : Code) (place : ℕ) → Shown code place
    → Three
    (at_start (stack_fails 0 (map_at code place) (start_of code (block_at code place).number)) (here_at code place))
    (stack_fails 0 (entered code (instr_at code place)) (state_at code place))
    (some_next code (λ t. stack_fails 0 (map_at code t) (left_at code place)) (here_at code place))
stack_rule code place s = stack_shown code (here_at code place) s.kept.empty s.known

-- ---- where a procedure begins

start_is : (code : Code) (n : ℕ) (p : Proc) → slice_get code.procedures n ≡ Some p → start_of code n ≡ p.entry
unfolding start_of
start_is code n p e = rw e refl

starts_covered : (code : Code) (place : ℕ) → Shown code place → (block_at code place).first ≡ place
    → covers (state_at code place) (start_of code (block_at code place).number) ≡ true
starts_covered code place s e =
    let t : ((block_at code place).first == place) ≡ true = eq-eqb (block_at code place).first place e in
    let c =
    covered (map_at code place) (start_of code (block_at code place).number)
    (then_no _ _ t (slots_rule code place s).0) (then_no _ _ t (desk_rule code place s).0)
    (then_no _ _ t (stack_rule code place s).0) in
    subst (λ m. covers m (start_of code (block_at code place).number) ≡ true) (sym (state_first code place e)) c

enters : (code : Code) → IsCode code → Facts code → KeepsRules code → (n : ℕ) (p : Proc)
    → slice_get code.procedures n ≡ Some p → Enters code n p
enters code ok facts keeps n p e =
    let f = first_is code ok n p e in
    let c = starts_covered code (first_of code n) (shown code facts keeps (first_of code n) f.within) f.first in
    record {
      within = f.within;
      number = f.number;
      first = f.first;
      end = f.end;
      covered =
          subst (λ s. covers (state_at code (first_of code n)) s ≡ true)
          (ap (start_of code) f.number ∙ start_is code n p e) c;
    }

-- ---- behind an instruction that goes on

goes_on : (code : Code) (place : ℕ) → Shown code place → (signature (instr_at code place)).falls ≡ true
    → leads_on code (instr_at code place) ≡ true
goes_on code place s f =
    and_not (signature (instr_at code place)).falls (fails_if_named (no_procedure code) (call_of (instr_at code place)))
    f (call_known code (state_at code place).desk (instr_at code place) s.kept.declared)

not_run_over : (code : Code) (h : Here) → is_filters code h.block ≡ false → fall_fails code h ≡ false
    → (signature h.instr).falls ≡ true → h.place + 1 < h.block.end
not_run_over code h o e f =
    let r : runs_over code h ≡ false =
    then_no (not (is_filters code h.block)) (runs_over code h) (not_from_false (is_filters code h.block) o) e in
    leb-false h.block.end (h.place + 1) (rw f at r)

one_more : (first place : ℕ) → first ≤ place → first ≤ place + 1
one_more first place le = omega arith

falls : (code : Code) (place : ℕ) → Shown code place → (signature (instr_at code place)).falls ≡ true
    → Reaches code place (place + 1)
falls code place s f =
    let on = goes_on code place s f in
    let to : place + 1 < (block_at code place).end = not_run_over code (here_at code place) s.outside s.kept.fall f in
    let within : IsOfProcedures code (place + 1) = omega (arith, to, s.stands.last) in
    let later = one_more (block_at code place).first place s.stands.from in
    let same = together code place (place + 1) later to in
    let from : (block_at code (place + 1)).first ≤ place = subst (λ b. b.first ≤ place) (sym same) s.stands.from in
    let c : covers (or_state (map_at code (place + 1)) (left_at code place)) (left_at code place) ≡ true =
    covered (map_at code (place + 1)) (left_at code place)
    (then_no _ _ on (or_parts _ _ (slots_rule code place s).2).1)
    (then_no _ _ on (or_parts _ _ (desk_rule code place s).2).1)
    (then_no _ _ on (or_parts _ _ (stack_rule code place s).2).1) in
    record {
      same = same;
      from = later;
      to = to;
      within = within;
      covered = subst (λ m. covers m (left_at code place) ≡ true) (sym (next_state code place (place + 1) refl from)) c;
    }

-- ---- where it jumps

jumps : (code : Code) (place next : ℕ) → Shown code place → target_of (instr_at code place) ≡ Some next
    → Reaches code place next
jumps code place next s e =
    let j =
    or_parts (is_outside (block_at code place) next) (is_none (map_at code next))
    (some_keeps (λ t. is_outside (block_at code place) t || is_none (map_at code t))
    (target_of (instr_at code place)) next s.kept.jump e) in
    let b = or_parts (nat_lt next (block_at code place).first) (nat_le (block_at code place).end next) j.0 in
    let from : (block_at code place).first ≤ next = ltb-false next (block_at code place).first b.0 in
    let to : next < (block_at code place).end = leb-false (block_at code place).end next b.1 in
    let c = covered (map_at code next) (left_at code place)
    (some_keeps (λ t. slots_fail (map_at code t) (left_at code place)) _ next
    (or_parts _ _ (slots_rule code place s).2).0 e)
    (some_keeps (λ t. desk_fails (map_at code t) (left_at code place)) _ next
    (or_parts _ _ (desk_rule code place s).2).0 e)
    (some_keeps (λ t. stack_fails 0 (map_at code t) (left_at code place)) _ next
    (or_parts _ _ (stack_rule code place s).2).0 e) in
    record {
      same = together code place next from to;
      from = from;
      to = to;
      within = omega (arith, to, s.stands.last);
      covered =
          subst (λ m. covers m (left_at code place) ≡ true) (sym (state_mapped code next (left_at code place) j.1)) c;
    }

-- ---- what it calls, and a return

some_is : {A : Type 0} (o : Option A) → is_none o ≡ false → (x : A) × (o ≡ Some x)
some_is None e = absurd (cc)
some_is (Some x) e = (x, refl)

entered_is : (code : Code) (i : Instr) (n : ℕ) (p : Proc) → call_of i ≡ Some n → slice_get code.procedures n ≡ Some p
    → entered code i ≡ Some p.entry
entered_is code i n p e f = ap (called_entry code) e ∙ ap entry_in f

calls_as : (code : Code) (place n : ℕ) → Shown code place → call_of (instr_at code place) ≡ Some n → (p : Proc)
    → slice_get code.procedures n ≡ Some p → Calls code place n
calls_as code place n s e p f =
    let en = entered_is code (instr_at code place) n p e f in
    let l = then_no _ _ (not_from_false (is_filters code (block_at code place)) s.outside) s.kept.level in
    let b : not_below (level_of (slice_get code.procedures (block_at code place).number)) (slice_get code.procedures n)
    ≡ false = some_keeps (λ m. not_below (level_of (slice_get code.procedures (block_at code place).number))
    (slice_get code.procedures m)) (call_of (instr_at code place)) n l e in
    record {
      procedure = p;
      is = f;
      below =
          leb-false (level_of (slice_get code.procedures (block_at code place).number)) p.level
          (subst (λ o. not_below (level_of (slice_get code.procedures (block_at code place).number)) o ≡ false) f b);
      covered = covered_by p.entry (state_at code place)
          (subst (λ o. slots_fail o (state_at code place) ≡ false) en (slots_rule code place s).1)
          (subst (λ o. desk_fails o (state_at code place) ≡ false) en (desk_rule code place s).1)
          (subst (λ o. stack_fails 0 o (state_at code place) ≡ false) en (stack_rule code place s).1);
    }

calls : (code : Code) (place n : ℕ) → Shown code place → call_of (instr_at code place) ≡ Some n → Calls code place n
calls code place n s e =
    let t =
    some_is (slice_get code.procedures n)
    (some_keeps (no_procedure code) (call_of (instr_at code place)) n
    (call_known code (state_at code place).desk (instr_at code place) s.kept.declared) e) in
    calls_as code place n s e t.0 t.1

leaves : (code : Code) (place : ℕ) (p : Proc) → Shown code place → is_return (instr_at code place) ≡ true
    → slice_get code.procedures (block_at code place).number ≡ Some p → covers p.exit (state_at code place) ≡ true
leaves code place p s r e =
    let x = then_no _ _ (not_from_false (is_filters code (block_at code place)) s.outside) s.kept.exit in
    let y : not_covered (slice_get code.procedures (block_at code place).number) (state_at code place) ≡ false =
    then_no _ _ r x in
    not-false (covers p.exit (state_at code place)) (subst (λ o. not_covered o (state_at code place) ≡ false) e y)

pub connects : (code : Code) → IsCode code → Facts code → KeepsRules code → Connects code
connects code ok facts keeps = record {
  stands = stands code;
  enters = enters code ok facts keeps;
  falls = λ place lt f. falls code place (shown code facts keeps place lt) f;
  jumps = λ place next lt e. jumps code place next (shown code facts keeps place lt) e;
  calls = λ place n lt e. calls code place n (shown code facts keeps place lt) e;
  returns = λ place p lt r e. leaves code place p (shown code facts keeps place lt) r e;
  filters = filter_walks code ok facts keeps;
  gives = λ place lt. (shown code facts keeps place lt).known;
}
