-- Lines behind those that are left change no step that finds the line that it takes.
use Rattle.std.proofs.Common.{◌≡◌, ℕ, zero, suc, ◌≤◌, ◌&&◌, Bool, true, false, List, [], ◌∷◌, ◌++◌, Option, Some, None}
use Rattle.std.proofs.Common.{refl, sym, ap, subst, ◌∙◌, arith, if◌then◌else◌}
use Rattle.std.specs.Prelude.{option_and_then}
use Rattle.xvalue.specs.declared.value.Value.{Value}
use Rattle.screen_lines.specs.State.{ScreenState}
use Rattle.text_lines.specs.Lines.{is_out, next_line, lines_behind}
use Rattle.code_items.specs.declared.code.Code.{Code}
use Rattle.code_items.specs.declared.instr.Instr.{Instr}
use Rattle.code_items.specs.declared.instr.Instr.TheVariants.{Values, Flow, Screen, Areas, Moves, Records}
use Rattle.code_items.specs.declared.instr.ValueInstr.{ValueInstr}
use Rattle.code_items.specs.declared.instr.ValueInstr.TheVariants.{Constant, Load, Store, Unset, Discard, Function}
use Rattle.code_items.specs.declared.instr.ValueInstr.TheVariants.{Today, Set}
use Rattle.code_items.specs.declared.instr.ScreenInstr.{ScreenInstr}
use Rattle.code_items.specs.declared.instr.ScreenInstr.TheVariants.{NewLine, Print, Say, SayOn, Input, Line, Clear}
use Rattle.code_items.specs.declared.instr.AreaInstr.{AreaInstr}
use Rattle.code_items.specs.declared.instr.AreaInstr.TheVariants.{Open, Close, CloseAll, Select, Order, Filter}
use Rattle.code_items.specs.declared.instr.RecordInstr.{RecordInstr}
use Rattle.code_items.specs.declared.instr.RecordInstr.TheVariants.{Field, RowField, Ask, Append, Replace, Delete}
use Rattle.code_items.specs.declared.instr.RecordInstr.TheVariants.{Recall, Pack, Zap, Reindex, Index}
use Rattle.code_rules.specs.Places.{instr_at}
use Rattle.run_values.specs.Tagged.{TaggedValues}
use Rattle.run_steps.specs.declared.fault.FaultKind.{FaultKind}
use Rattle.run_steps.specs.World.{World, EnvState, with_lines, with_screen}
use Rattle.run_steps.specs.Control.{effect, finishes}
use Rattle.run_steps.specs.Effects.{top, on_value, values_after, env_after, screen_values, screen_env, value_values}
use Rattle.run_steps.specs.Effects.{value_env, record_values, store_by_area, store_by_record, area_cost, record_cost}
use Rattle.run_steps.specs.Effects.{cost_of_instr}
use Rattle.run_steps.specs.Faults.{fault_of}
use Rattle.run_steps.specs.Pausing.{takes_line, screen_takes_line, is_dry, FindsLines, with_more, Came}
use Rattle.run_steps.specs.Run.{after, spent, cost_of, cost_in, cost_at, judged, step_of, next_world, is_full}
use Rattle.run_steps.specs.Run.{Next, Finished, NoRoom}
use Rattle.work_area.specs.Areas.{StoreState}

-- ---- lists

next_more : (ls more : List (List ℕ)) → is_out ls ≡ false → next_line (ls ++ more) ≡ next_line ls
next_more [] more some = absurd (cc)
next_more (l ∷ ls) more some = refl

behind_more : (ls more : List (List ℕ)) → is_out ls ≡ false → lines_behind (ls ++ more) ≡ lines_behind ls ++ more
behind_more [] more some = absurd (cc)
behind_more (l ∷ ls) more some = refl

wet_more : (takes : Bool) (ls more : List (List ℕ)) → (takes && is_out ls) ≡ false
    → (takes && is_out (ls ++ more)) ≡ false
wet_more false ls more e = refl
wet_more true [] more e = absurd (cc)
wet_more true (l ∷ ls) more e = refl

-- ---- values

abbrev pub env_with : List (List ℕ) → EnvState → EnvState
env_with more e = with_lines (e.lines ++ more) e

of_values : (code : Code) (i : ValueInstr) (t : TaggedValues) (e : EnvState) (more : List (List ℕ))
    → value_values code i t (env_with more e) ≡ value_values code i t e
of_values code (Constant n) t e more = refl
of_values code (Load k s) t e more = refl
of_values code (Store k s) t e more = refl
of_values code (Unset s) t e more = refl
of_values code (Discard k) t e more = refl
of_values code (Function f) t e more = refl
of_values code Today t e more = refl
of_values code (Set x on) t e more = refl

of_screen : (i : ScreenInstr) (t : TaggedValues) (e : EnvState) (more : List (List ℕ))
    → (screen_takes_line i && is_out e.lines) ≡ false → screen_values i t (env_with more e) ≡ screen_values i t e
of_screen NewLine t e more wet = refl
of_screen (Print k) t e more wet = refl
of_screen (Say k) t e more wet = refl
of_screen (SayOn k) t e more wet = refl
of_screen (Input k) t e more wet = rw (next_more e.lines more wet) refl
of_screen Line t e more wet = rw (next_more e.lines more wet) refl
of_screen Clear t e more wet = refl

of_records : (i : RecordInstr) (t : TaggedValues) (e : EnvState) (more : List (List ℕ))
    → record_values i t (env_with more e) ≡ record_values i t e
of_records (Field a n) t e more = refl
of_records (RowField n) t e more = refl
of_records (Ask q) t e more = refl
of_records Append t e more = refl
of_records (Replace n) t e more = refl
of_records Delete t e more = refl
of_records Recall t e more = refl
of_records Pack t e more = refl
of_records Zap t e more = refl
of_records Reindex t e more = refl
of_records (Index l) t e more = refl

values_more : (code : Code) (i : Instr) (t : TaggedValues) (e : EnvState) (more : List (List ℕ))
    → (takes_line i && is_out e.lines) ≡ false → values_after code i t (env_with more e) ≡ values_after code i t e
values_more code (Values i) t e more wet = of_values code i t e more
values_more code (Flow i) t e more wet = refl
values_more code (Screen i) t e more wet = of_screen i t e more wet
values_more code (Areas i) t e more wet = refl
values_more code (Moves i) t e more wet = refl
values_more code (Records i) t e more wet = of_records i t e more

-- ---- the environment

setting_more : (i : ValueInstr) (e : EnvState) (more : List (List ℕ))
    → value_env i (env_with more e) ≡ env_with more (value_env i e)
setting_more (Constant n) e more = refl
setting_more (Load k s) e more = refl
setting_more (Store k s) e more = refl
setting_more (Unset s) e more = refl
setting_more (Discard k) e more = refl
setting_more (Function f) e more = refl
setting_more Today e more = refl
setting_more (Set x on) e more = refl

shown_more : (x : Option Value) (e : EnvState) (more : List (List ℕ)) (s : Value → ScreenState)
    → on_value x (env_with more e) (λ v. with_screen (s v) (env_with more e))
    ≡ env_with more (on_value x e (λ v. with_screen (s v) e))
shown_more None e more s = refl
shown_more (Some v) e more s = refl

screen_more : (i : ScreenInstr) (t : TaggedValues) (e : EnvState) (more : List (List ℕ))
    → (screen_takes_line i && is_out e.lines) ≡ false
    → screen_env i t (env_with more e) ≡ env_with more (screen_env i t e)
screen_more NewLine t e more wet = refl
screen_more (Print k) t e more wet = shown_more (top t) e more _
screen_more (Say k) t e more wet = shown_more (top t) e more _
screen_more (SayOn k) t e more wet = shown_more (top t) e more _
screen_more (Input k) t e more wet = ap (λ ls. with_lines ls e) (behind_more e.lines more wet)
screen_more Line t e more wet = ap (λ ls. with_lines ls e) (behind_more e.lines more wet)
screen_more Clear t e more wet = refl

area_more : (code : Code) (i : AreaInstr) (e : EnvState) (more : List (List ℕ))
    → store_by_area code i (env_with more e) ≡ store_by_area code i e
area_more code (Open t l) e more = refl
area_more code Close e more = refl
area_more code CloseAll e more = refl
area_more code (Select a) e more = refl
area_more code (Order n) e more = refl
area_more code (Filter n) e more = refl

record_more : (code : Code) (i : RecordInstr) (t : TaggedValues) (e : EnvState) (more : List (List ℕ))
    → store_by_record code i t (env_with more e) ≡ store_by_record code i t e
record_more code (Field a n) t e more = refl
record_more code (RowField n) t e more = refl
record_more code (Ask q) t e more = refl
record_more code Append t e more = refl
record_more code (Replace n) t e more = refl
record_more code Delete t e more = refl
record_more code Recall t e more = refl
record_more code Pack t e more = refl
record_more code Zap t e more = refl
record_more code Reindex t e more = refl
record_more code (Index l) t e more = refl

abbrev pub stored_in : List (List ℕ) → EnvState → StoreState → EnvState
stored_in more e s = record {
  store = s;
  screen = e.screen;
  lines = e.lines ++ more;
  settings = e.settings;
  today = e.today;
}

env_more : (code : Code) (i : Instr) (t : TaggedValues) (e : EnvState) (more : List (List ℕ))
    → (takes_line i && is_out e.lines) ≡ false
    → env_after code i t (env_with more e) ≡ env_with more (env_after code i t e)
env_more code (Values i) t e more wet = setting_more i e more
env_more code (Flow i) t e more wet = refl
env_more code (Screen i) t e more wet = screen_more i t e more wet
env_more code (Areas i) t e more wet = ap (stored_in more e) (area_more code i e more)
env_more code (Moves i) t e more wet = refl
env_more code (Records i) t e more wet = ap (stored_in more e) (record_more code i t e more)

-- ---- costs

area_costs : (code : Code) (i : AreaInstr) (e : EnvState) (more : List (List ℕ))
    → area_cost code i (env_with more e) ≡ area_cost code i e
area_costs code (Open t l) e more = refl
area_costs code Close e more = refl
area_costs code CloseAll e more = refl
area_costs code (Select a) e more = refl
area_costs code (Order n) e more = refl
area_costs code (Filter n) e more = refl

record_costs : (code : Code) (i : RecordInstr) (t : TaggedValues) (e : EnvState) (more : List (List ℕ))
    → record_cost code i t (env_with more e) ≡ record_cost code i t e
record_costs code (Field a n) t e more = refl
record_costs code (RowField n) t e more = refl
record_costs code (Ask q) t e more = refl
record_costs code Append t e more = refl
record_costs code (Replace n) t e more = refl
record_costs code Delete t e more = refl
record_costs code Recall t e more = refl
record_costs code Pack t e more = refl
record_costs code Zap t e more = refl
record_costs code Reindex t e more = refl
record_costs code (Index l) t e more = refl

instr_costs : (code : Code) (i : Instr) (t : TaggedValues) (e : EnvState) (more : List (List ℕ))
    → cost_of_instr code i t (env_with more e) ≡ cost_of_instr code i t e
instr_costs code (Values i) t e more = refl
instr_costs code (Flow i) t e more = refl
instr_costs code (Screen i) t e more = refl
instr_costs code (Areas i) t e more = area_costs code i e more
instr_costs code (Moves i) t e more = refl
instr_costs code (Records i) t e more = record_costs code i t e more

costs_more : (code : Code) (w : World) (more : List (List ℕ)) → cost_of code (with_more more w) ≡ cost_of code w
unfolding cost_at
costs_more code w more = instr_costs code (instr_at code w.place) w.values w.env more

-- ---- steps

effect_more : (code : Code) (w : World) (i : Instr) (more : List (List ℕ))
    → (takes_line i && is_out w.env.lines) ≡ false → effect code (with_more more w) i ≡ with_more more (effect code w i)
effect_more code w i more wet = λ k. record {
  place = (effect code w i).place;
  returns = (effect code w i).returns;
  values = values_more code i w.values w.env more wet k;
  env = env_more code i w.values w.env more wet k;
}

abbrev pub lifted : List (List ℕ) → Option World → Option World
lifted more None = None
lifted more (Some w) = Some (with_more more w)

step_lifted : (f : Option FaultKind) (fin full : Bool) (x y : World) (more : List (List ℕ)) → y ≡ with_more more x
    → next_world (judged f (if fin then Finished else if full then NoRoom else Next y))
    ≡ lifted more (next_world (judged f (if fin then Finished else if full then NoRoom else Next x)))
step_lifted None true full x y more e = refl
step_lifted None false true x y more e = refl
step_lifted None false false x y more e = ap (λ w. Some w) e
step_lifted (Some kind) fin full x y more e = refl

step_more : (code : Code) (w : World) (more : List (List ℕ)) → is_dry code w ≡ false
    → next_world (step_of code (with_more more w)) ≡ lifted more (next_world (step_of code w))
unfolding step_of fault_of
step_more code w more wet =
    let i = instr_at code w.place in
    step_lifted (fault_of code w i) (finishes w i) (is_full w.env i) (effect code w i) (effect code (with_more more w) i)
    more (effect_more code w i more wet)

step_behind : (code : Code) (x : Option World) (more : List (List ℕ))
    → ((v : World) → x ≡ Some v → is_dry code v ≡ false)
    → option_and_then (λ v. next_world (step_of code v)) (lifted more x)
    ≡ lifted more (option_and_then (λ v. next_world (step_of code v)) x)
step_behind code None more wet = refl
step_behind code (Some v) more wet = step_more code v more (wet v refl)

fewer : (code : Code) (w : World) (n k : ℕ) → k ≤ n → FindsLines code w n → FindsLines code w k
fewer code w n k le finds j v less at = finds j v (omega (arith, less, le)) at

worlds_more : (code : Code) (w : World) (n : ℕ) (more : List (List ℕ)) → FindsLines code w n
    → after code (with_more more w) n ≡ lifted more (after code w n)
worlds_more code w zero more finds = refl
worlds_more code w (suc n) more finds =
    ap (option_and_then (λ v. next_world (step_of code v)))
    (worlds_more code w n more (fewer code w (suc n) n (omega arith) finds))
    ∙ step_behind code (after code w n) more (λ v e. finds n v (omega arith) e)

cost_lifted : (code : Code) (x : Option World) (more : List (List ℕ)) → cost_in code (lifted more x) ≡ cost_in code x
cost_lifted code None more = refl
cost_lifted code (Some v) more = costs_more code v more

spent_lifted : (code : Code) (w : World) (n : ℕ) (more : List (List ℕ)) → FindsLines code w n
    → spent code (with_more more w) n ≡ spent code w n
spent_lifted code w zero more finds = refl
spent_lifted code w (suc n) more finds =
    let before = fewer code w (suc n) n (omega arith) finds in
    let same = spent_lifted code w n more before in
    let last = ap (cost_in code) (worlds_more code w n more before) ∙ cost_lifted code (after code w n) more in
    omega (arith, same, last)

finds_lifted : (code : Code) (x : Option World) (more : List (List ℕ)) (u : World)
    → ((v : World) → x ≡ Some v → is_dry code v ≡ false) → lifted more x ≡ Some u → is_dry code u ≡ false
finds_lifted code None more u wet e = absurd (cc)
finds_lifted code (Some v) more u wet e =
    let same : with_more more v ≡ u = cc in
    subst (λ (w : World). is_dry code w ≡ false) same
    (wet_more (takes_line (instr_at code v.place)) v.env.lines more (wet v refl))

pub came_more : (code : Code) (a b : World) (steps : ℕ) (more : List (List ℕ)) → Came code a steps b
    → Came code (with_more more a) steps (with_more more b)
came_more code a b steps more c = record {
  count = c.count;
  reached = worlds_more code a c.count more c.finds ∙ ap (lifted more) c.reached;
  steps_are = c.steps_are ∙ sym (spent_lifted code a c.count more c.finds);
  finds = λ k v less at.
      let before = fewer code a c.count k (omega (arith, less)) c.finds in
      finds_lifted code (after code a k) more v (λ u e. c.finds k u less e)
      (sym (worlds_more code a k more before) ∙ at);
}
