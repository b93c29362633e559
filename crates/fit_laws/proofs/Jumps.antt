-- Where the run goes next stands in a procedure.
use Rattle.std.proofs.Common.{◌≡◌, ◌<◌, ℕ, ◌+◌, Bool, true, false, not, ◌&&◌, ◌==◌, List, [], ◌∷◌, length, Some, None}
use Rattle.std.proofs.Common.{refl, sym, ap, subst}
use Rattle.std.specs.Prelude.{nat_le, slice_get, unwrap_or, IfSome, if◌then◌else◌}
use Rattle.std.proofs.lemmas.Bool.{and_right, lt-leb}
use Rattle.code_items.specs.declared.code.Code.{Code}
use Rattle.code_items.specs.Legal.{places_of}
use Rattle.code_items.specs.declared.instr.ValueInstr.{ValueInstr}
use Rattle.code_items.specs.declared.instr.ValueInstr.TheVariants.{Constant, Load, Store, Unset, Discard, Function}
use Rattle.code_items.specs.declared.instr.ValueInstr.TheVariants.{Today, Set}
use Rattle.code_items.specs.declared.instr.FlowInstr.{FlowInstr}
use Rattle.code_items.specs.declared.instr.FlowInstr.TheVariants.{Jump, JumpFalse, Call, Return, End}
use Rattle.code_items.specs.declared.instr.ScreenInstr.{ScreenInstr}
use Rattle.code_items.specs.declared.instr.ScreenInstr.TheVariants.{NewLine, Print, Say, SayOn, Input, Line, Clear}
use Rattle.code_items.specs.declared.instr.AreaInstr.{AreaInstr}
use Rattle.code_items.specs.declared.instr.AreaInstr.TheVariants.{Open, Close, CloseAll, Select, Order, Filter}
use Rattle.code_items.specs.declared.instr.MoveInstr.{MoveInstr}
use Rattle.code_items.specs.declared.instr.MoveInstr.TheVariants.{Top, Bottom, Skip, Go, Seek}
use Rattle.code_items.specs.declared.instr.RecordInstr.{RecordInstr}
use Rattle.code_items.specs.declared.instr.RecordInstr.TheVariants.{Field, RowField, Ask, Append, Replace, Delete}
use Rattle.code_items.specs.declared.instr.RecordInstr.TheVariants.{Recall, Pack, Zap, Reindex, Index}
use Rattle.code_items.specs.declared.instr.Instr.{Instr}
use Rattle.code_items.specs.declared.instr.Instr.TheVariants.{Values, Flow, Screen, Areas, Moves, Records}
use Rattle.code_rules.specs.Signature.{signature, value_signature, screen_signature, area_signature, move_signature}
use Rattle.code_rules.specs.Signature.{record_signature, target_of, call_of}
use Rattle.code_rules.specs.Places.{instr_at}
use Rattle.code_rules.specs.Rules.{fails_if_named, no_procedure}
use Rattle.fit_laws.specs.Connects.{IsOfProcedures, Connects}
use Rattle.run_steps.specs.World.{World}
use Rattle.run_steps.specs.Control.{entry_place, is_false, next_place, finishes}
use Rattle.run_steps.specs.Effects.{top}
use Rattle.run_steps.specs.Faults.{bad_jump}
use Rattle.fit_laws.specs.Fits.{ReturnsWithin}

pub value_falls : (i : ValueInstr) → (value_signature i).falls ≡ true
value_falls (Constant n) = refl
value_falls (Load k s) = refl
value_falls (Store k s) = refl
value_falls (Unset s) = refl
value_falls (Discard k) = refl
value_falls (Function f) = refl
value_falls Today = refl
value_falls (Set x on) = refl

pub screen_falls : (i : ScreenInstr) → (screen_signature i).falls ≡ true
screen_falls NewLine = refl
screen_falls (Print k) = refl
screen_falls (Say k) = refl
screen_falls (SayOn k) = refl
screen_falls (Input k) = refl
screen_falls Line = refl
screen_falls Clear = refl

pub area_falls : (i : AreaInstr) → (area_signature i).falls ≡ true
area_falls (Open t l) = refl
area_falls Close = refl
area_falls CloseAll = refl
area_falls (Select a) = refl
area_falls (Order n) = refl
area_falls (Filter n) = refl

pub move_falls : (i : MoveInstr) → (move_signature i).falls ≡ true
move_falls Top = refl
move_falls Bottom = refl
move_falls Skip = refl
move_falls Go = refl
move_falls Seek = refl

pub record_falls : (i : RecordInstr) → (record_signature i).falls ≡ true
record_falls (Field a f) = refl
record_falls (RowField f) = refl
record_falls (Ask q) = refl
record_falls Append = refl
record_falls (Replace f) = refl
record_falls Delete = refl
record_falls Recall = refl
record_falls Pack = refl
record_falls Zap = refl
record_falls Reindex = refl
record_falls (Index l) = refl

-- where an instruction at a place may lead to stands in a procedure
record Leads (code : Code) (place : ℕ) (i : Instr) : Type 0 where
  pub falls : (signature i).falls ≡ true → IsOfProcedures code (place + 1)
  pub jumps : (next : ℕ) → target_of i ≡ Some next → IsOfProcedures code next
  pub calls : (n : ℕ) → call_of i ≡ Some n → IsOfProcedures code (entry_place code n)

leads : (code : Code) → Connects code → (place : ℕ) → IsOfProcedures code place → Leads code place (instr_at code place)
leads code c place lt = record {
  falls = λ f. (c.falls place lt f).within;
  jumps = λ next e. (c.jumps place next lt e).within;
  calls = λ n e. (let p = c.calls place n lt e in (c.enters n p.procedure p.is).within);
}

-- it goes on within, whatever else is asked
within : (code : Code) (w : World) (i : Instr) → IsOfProcedures code (next_place code w i) → bad_jump code w i ≡ false
within code w i lt =
    and_right (not (finishes w i) && not (fails_if_named (no_procedure code) (call_of i)))
    (nat_le (places_of code.procedures) (next_place code w i))
    (lt-leb (places_of code.procedures) (next_place code w i) lt)

pub either : (P : ℕ → Type 0) (b : Bool) (p q : ℕ) → P p → P q → P (if b then p else q)
either P true p q e f = e
either P false p q e f = f

-- or the run ends
ends : (b x y : Bool) → b ≡ true → (not b && x && y) ≡ false
ends true x y e = refl
ends false x y e = absurd (cc)

return_within : (code : Code) (w : World) (returns : List ℕ) → w.returns ≡ returns
    → IfSome (slice_get returns 0) (IsOfProcedures code) → bad_jump code w (Flow Return) ≡ false
return_within code w [] e h =
    ends (finishes w (Flow Return)) (not (fails_if_named (no_procedure code) None))
    (nat_le (places_of code.procedures) (next_place code w (Flow Return))) (ap (λ (r : List ℕ). length r == 0) e)
return_within code w (place ∷ places) e h =
    within code w (Flow Return) (subst (λ (r : List ℕ). unwrap_or (slice_get r 0) w.place < places_of code.procedures)
    (sym e) h)

flow_within : (code : Code) (w : World) (i : FlowInstr) → Leads code w.place (Flow i) → ReturnsWithin code w
    → bad_jump code w (Flow i) ≡ false
flow_within code w (Jump p) l r = within code w (Flow (Jump p)) (l.jumps p refl)
flow_within code w (JumpFalse p) l r =
    within code w (Flow (JumpFalse p))
    (either (IsOfProcedures code) (is_false (top w.values)) p (w.place + 1) (l.jumps p refl) (l.falls refl))
flow_within code w (Call n) l r = within code w (Flow (Call n)) (l.calls n refl)
flow_within code w Return l r = return_within code w w.returns refl r
flow_within code w End l r = refl

goes_within : (code : Code) (w : World) (i : Instr) → Leads code w.place i → ReturnsWithin code w
    → bad_jump code w i ≡ false
goes_within code w (Values i) l r = within code w (Values i) (l.falls (value_falls i))
goes_within code w (Flow i) l r = flow_within code w i l r
goes_within code w (Screen i) l r = within code w (Screen i) (l.falls (screen_falls i))
goes_within code w (Areas i) l r = within code w (Areas i) (l.falls (area_falls i))
goes_within code w (Moves i) l r = within code w (Moves i) (l.falls (move_falls i))
goes_within code w (Records i) l r = within code w (Records i) (l.falls (record_falls i))

pub jumps_within : (code : Code) → Connects code → (w : World) → IsOfProcedures code w.place → ReturnsWithin code w
    → bad_jump code w (instr_at code w.place) ≡ false
jumps_within code c w lt r = goes_within code w (instr_at code w.place) (leads code c w.place lt) r
