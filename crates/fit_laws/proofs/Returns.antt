-- The places behind calls: how many there are, where they stand, and what a return finds there.
use Rattle.std.proofs.Common.{◌≡◌, ◌<◌, ◌≤◌, ℕ, zero, suc, ◌+◌, true, false, ◌&&◌, ◌==◌, List, [], ◌∷◌, length, Some}
use Rattle.std.proofs.Common.{refl, sym, ap, ◌∙◌, subst, arith}
use Rattle.std.specs.Prelude.{nat_le, slice_get, unwrap_or, drop, IfSome}
use Rattle.std.specs.List.{list_all}
use Rattle.std.proofs.lemmas.Bool.{and_parts, leb-true}
use Rattle.code_items.specs.declared.code.Code.{Code}
use Rattle.code_items.specs.declared.code.Proc.{Proc}
use Rattle.code_items.specs.declared.declared.Declared.{Declared}
use Rattle.code_items.specs.declared.instr.FlowInstr.{FlowInstr}
use Rattle.code_items.specs.declared.instr.FlowInstr.TheVariants.{Jump, JumpFalse, Call, Return, End}
use Rattle.code_items.specs.declared.instr.Instr.{Instr}
use Rattle.code_items.specs.declared.instr.Instr.TheVariants.{Values, Flow, Screen, Areas, Moves, Records}
use Rattle.code_items.specs.declared.state.State.{State}
use Rattle.code_items.specs.Declarations.{are_declared}
use Rattle.code_items.specs.Legal.{is_procedure, begins_blank, procedures_are_legal, maps_are_legal}
use Rattle.code_items.specs.Legal.{instructions_are_legal, is_code, IsCode}
use Rattle.code_items.specs.States.{is_state}
use Rattle.code_rules.specs.declared.blocks.Block.{Block}
use Rattle.code_rules.specs.Signature.{signature, target_of, call_of}
use Rattle.code_rules.specs.Flow.{flow, left_by, after_call, exit_of}
use Rattle.code_rules.specs.Places.{instr_at, block_at, state_at}
use Rattle.code_rules.specs.Rules.{covers, level_of}
use Rattle.fit_laws.specs.Connects.{IsOfProcedures, Connects, left_at}
use Rattle.run_steps.specs.World.{World}
use Rattle.run_steps.specs.Control.{entry_place, is_false, finishes, next_place, next_returns}
use Rattle.run_steps.specs.Effects.{top}
use Rattle.fit_laws.specs.Fits.{HasRoomToCall, procedure_at, IsBehindCall, Awaits, level_by_number, LevelsFall}
use Rattle.fit_laws.proofs.Jumps.{value_falls, screen_falls, area_falls, move_falls, record_falls, either}

-- ---- the procedures of a legal code

-- each is legal, and nothing is known where the first one begins
pub record Procedures (code : Code) : Type 0 where
  pub all : list_all (is_procedure code.declared) code.procedures ≡ true
  pub blank : begins_blank code.procedures ≡ true

pub procedures_of : (code : Code) → IsCode code → Procedures code
unfolding is_code
procedures_of code e =
    let a =
    and_parts (are_declared code.declared && procedures_are_legal code && maps_are_legal code)
    (instructions_are_legal code) e in
    let b = and_parts (are_declared code.declared && procedures_are_legal code) (maps_are_legal code) a.0 in
    let c = and_parts (are_declared code.declared) (procedures_are_legal code) b.0 in
    let f =
    and_parts (nat_le (length code.procedures) 256 && list_all (is_procedure code.declared) code.procedures)
    (begins_blank code.procedures) c.1 in
    let g =
    and_parts (nat_le (length code.procedures) 256) (list_all (is_procedure code.declared) code.procedures) f.0 in
    record { all = g.1; blank = f.1 }

-- what is known of one
pub record Procedure (d : Declared) (p : Proc) : Type 0 where
  pub level : p.level ≤ 20
  pub entry : is_state d p.entry ≡ true
  pub empty : length p.entry.stack == 0 ≡ true

pub procedure_of : (d : Declared) (p : Proc) → is_procedure d p ≡ true → Procedure d p
unfolding is_procedure
procedure_of d p e =
    let a =
    and_parts (nat_le p.level 20 && is_state d p.entry && is_state d p.exit && length p.entry.stack == 0)
    (length p.exit.stack == 0) e in
    let b = and_parts (nat_le p.level 20 && is_state d p.entry && is_state d p.exit) (length p.entry.stack == 0) a.0 in
    let c = and_parts (nat_le p.level 20 && is_state d p.entry) (is_state d p.exit) b.0 in
    let f = and_parts (nat_le p.level 20) (is_state d p.entry) c.0 in
    record { level = leb-true p.level 20 f.0; entry = f.1; empty = b.1 }

low : (d : Declared) (ps : List Proc) (n : ℕ) → list_all (is_procedure d) ps ≡ true → level_of (slice_get ps n) ≤ 20
low d [] n e = omega arith
low d (p ∷ ps) zero e = (procedure_of d p (and_parts (is_procedure d p) (list_all (is_procedure d) ps) e).0).level
low d (p ∷ ps) (suc n) e = low d ps n (and_parts (is_procedure d p) (list_all (is_procedure d) ps) e).1

-- ---- how many there are: levels fall from call to call

-- what runs at this level, and so many calls below it
few : (code : Code) → Procedures code → Connects code → (number : ℕ) (returns : List ℕ) → Awaits code number returns
    → level_of (slice_get code.procedures number) + length returns ≤ 20
few code ps c number [] h = omega (arith, low code.declared code.procedures number ps.all)
few code ps c number (next ∷ returns) h =
    let k = c.calls h.0.place number h.0.within h.0.calls in
    let level : level_of (slice_get code.procedures number) ≡ k.procedure.level = ap level_of k.is in
    let below : k.procedure.level < level_of (slice_get code.procedures (block_at code h.0.place).number) = k.below in
    let rest : level_of (slice_get code.procedures (block_at code h.0.place).number) + length returns ≤ 20 =
    few code ps c (procedure_at code h.0.place) returns h.1 in
    omega (arith, level, below, rest)

pub room : (code : Code) → Procedures code → Connects code → (w : World) → IsOfProcedures code w.place
    → Awaits code (procedure_at code w.place) w.returns → HasRoomToCall w (instr_at code w.place)
room code ps c w lt h = λ n e.
    (let k = c.calls w.place n lt e in
    let below : k.procedure.level < level_of (slice_get code.procedures (block_at code w.place).number) = k.below in
    let all : level_of (slice_get code.procedures (block_at code w.place).number) + length w.returns ≤ 20 =
    few code ps c (procedure_at code w.place) w.returns h in
    omega (arith, below, all))

-- ---- where they stand

call_falls : (i : Instr) (n : ℕ) → call_of i ≡ Some n → (signature i).falls ≡ true
call_falls (Values i) n e = value_falls i
call_falls (Flow (Jump p)) n e = absurd (cc)
call_falls (Flow (JumpFalse p)) n e = refl
call_falls (Flow (Call m)) n e = refl
call_falls (Flow Return) n e = absurd (cc)
call_falls (Flow End) n e = absurd (cc)
call_falls (Screen i) n e = screen_falls i
call_falls (Areas i) n e = area_falls i
call_falls (Moves i) n e = move_falls i
call_falls (Records i) n e = record_falls i

pub within : (code : Code) → Connects code → (number : ℕ) (returns : List ℕ) → Awaits code number returns
    → IfSome (slice_get returns 0) (IsOfProcedures code)
within code c number [] h = tt
within code c number (next ∷ returns) h =
    subst (IsOfProcedures code) (sym h.0.behind)
    (c.falls h.0.place h.0.within (call_falls (instr_at code h.0.place) number h.0.calls)).within

-- the place behind a call is in the procedure of the call
same_procedure : (code : Code) → Connects code → (number next : ℕ) (k : IsBehindCall code number next)
    → procedure_at code next ≡ procedure_at code k.place
same_procedure code c number next k =
    let r = c.falls k.place k.within (call_falls (instr_at code k.place) number k.calls) in
    ap (procedure_at code) k.behind ∙ ap (λ (b : Block). b.number) r.same

pub fall : (code : Code) → Connects code → (number : ℕ) (returns : List ℕ) → Awaits code number returns
    → LevelsFall code number returns
fall code c number [] h = tt
fall code c number (next ∷ returns) h =
    let k = c.calls h.0.place number h.0.within h.0.calls in
    let there = sym (same_procedure code c number next h.0) in
    let below : level_by_number code number < level_by_number code (procedure_at code h.0.place) =
    subst (λ l. l < level_by_number code (procedure_at code h.0.place)) (sym (ap level_of k.is)) k.below in
    subst (λ p. (level_by_number code number < level_by_number code p) × LevelsFall code p returns) there
    (below, fall code c (procedure_at code h.0.place) returns h.1)

-- ---- what is known there

call_leaves : (code : Code) (i : Instr) (n : ℕ) (p : Proc) (s : State) → call_of i ≡ Some n
    → slice_get code.procedures n ≡ Some p → flow code i s ≡ p.exit
unfolding flow
call_leaves code i n p s e is = ap (λ o. after_call code o s (left_by code i s)) e ∙ ap (λ q. exit_of q s) is

-- it covers the exit state of the procedure that was called
pub exit_covered : (code : Code) → Connects code → (number next : ℕ) → IsBehindCall code number next → (p : Proc)
    → slice_get code.procedures number ≡ Some p → covers (state_at code next) p.exit ≡ true
exit_covered code c number next k p is =
    let r = c.falls k.place k.within (call_falls (instr_at code k.place) number k.calls) in
    let left : left_at code k.place ≡ p.exit =
    call_leaves code (instr_at code k.place) number p (state_at code k.place) k.calls is in
    subst (λ q. covers (state_at code q) p.exit ≡ true) (sym k.behind)
    (subst (λ s. covers (state_at code (k.place + 1)) s ≡ true) left r.covered)

-- ---- what a step makes of them

-- the procedures of the places that an instruction at a place leads to
record Runs (code : Code) (place : ℕ) (i : Instr) : Type 0 where
  falls : (signature i).falls ≡ true → procedure_at code (place + 1) ≡ procedure_at code place
  jumps : (next : ℕ) → target_of i ≡ Some next → procedure_at code next ≡ procedure_at code place
  enters : (n : ℕ) → call_of i ≡ Some n → procedure_at code (entry_place code n) ≡ n
  calls : (n : ℕ) → call_of i ≡ Some n → (returns : List ℕ) → Awaits code (procedure_at code place) returns
      → Awaits code n ((place + 1) ∷ returns)

runs : (code : Code) → Connects code → (place : ℕ) → IsOfProcedures code place → Runs code place (instr_at code place)
runs code c place lt = record {
  falls = λ f. ap (λ (b : Block). b.number) (c.falls place lt f).same;
  jumps = λ next e. ap (λ (b : Block). b.number) (c.jumps place next lt e).same;
  enters = λ n e. (let k = c.calls place n lt e in (c.enters n k.procedure k.is).number);
  calls = λ n e returns h. (record { place = place; behind = refl; within = lt; calls = e }, h);
}

return_awaits : (code : Code) → Connects code → (w : World) (returns : List ℕ) → w.returns ≡ returns
    → length returns == 0 ≡ false → Awaits code (procedure_at code w.place) returns
    → Awaits code (procedure_at code (unwrap_or (slice_get w.returns 0) w.place)) (drop 1 w.returns)
return_awaits code c w [] e f h = absurd (cc)
return_awaits code c w (next ∷ returns) e f h =
    let rest : Awaits code (procedure_at code next) returns =
    subst (λ n. Awaits code n returns) (sym (same_procedure code c (procedure_at code w.place) next h.0)) h.1 in
    subst (λ (x : List ℕ). Awaits code (procedure_at code (unwrap_or (slice_get x 0) w.place)) (drop 1 x)) (sym e) rest

flow_awaits : (code : Code) → Connects code → (w : World) (i : FlowInstr) → Runs code w.place (Flow i)
    → finishes w (Flow i) ≡ false → Awaits code (procedure_at code w.place) w.returns
    → Awaits code (procedure_at code (next_place code w (Flow i))) (next_returns w (Flow i))
flow_awaits code c w (Jump p) r e h = subst (λ n. Awaits code n w.returns) (sym (r.jumps p refl)) h
flow_awaits code c w (JumpFalse p) r e h =
    either (λ q. Awaits code (procedure_at code q) w.returns) (is_false (top w.values)) p (w.place + 1)
    (subst (λ n. Awaits code n w.returns) (sym (r.jumps p refl)) h)
    (subst (λ n. Awaits code n w.returns) (sym (r.falls refl)) h)
flow_awaits code c w (Call n) r e h =
    subst (λ m. Awaits code m ((w.place + 1) ∷ w.returns)) (sym (r.enters n refl)) (r.calls n refl w.returns h)
flow_awaits code c w Return r e h = return_awaits code c w w.returns refl e h
flow_awaits code c w End r e h = absurd (cc)

awaits_next : (code : Code) → Connects code → (w : World) (i : Instr) → Runs code w.place i → finishes w i ≡ false
    → Awaits code (procedure_at code w.place) w.returns
    → Awaits code (procedure_at code (next_place code w i)) (next_returns w i)
awaits_next code c w (Values i) r e h = subst (λ n. Awaits code n w.returns) (sym (r.falls (value_falls i))) h
awaits_next code c w (Flow i) r e h = flow_awaits code c w i r e h
awaits_next code c w (Screen i) r e h = subst (λ n. Awaits code n w.returns) (sym (r.falls (screen_falls i))) h
awaits_next code c w (Areas i) r e h = subst (λ n. Awaits code n w.returns) (sym (r.falls (area_falls i))) h
awaits_next code c w (Moves i) r e h = subst (λ n. Awaits code n w.returns) (sym (r.falls (move_falls i))) h
awaits_next code c w (Records i) r e h = subst (λ n. Awaits code n w.returns) (sym (r.falls (record_falls i))) h

pub awaits_on : (code : Code) → Connects code → (w : World) → IsOfProcedures code w.place
    → finishes w (instr_at code w.place) ≡ false → Awaits code (procedure_at code w.place) w.returns
    → Awaits code (procedure_at code (next_place code w (instr_at code w.place)))
    (next_returns w (instr_at code w.place))
awaits_on code c w lt e h = awaits_next code c w (instr_at code w.place) (runs code c w.place lt) e h
