-- A run through instructions that only read goes over them one by one, and changes the stack alone.
use Rattle.std.proofs.Common.{◌≡◌, ◌<◌, ◌≤◌, ℕ, zero, suc, ◌+◌, Bool, true, false, List, [], ◌∷◌, length, take, drop}
use Rattle.std.proofs.Common.{Option, Some, None, refl, sym, ap, ◌∙◌, subst, arith}
use Rattle.std.specs.Prelude.{◌&&◌, slice_get, slice_index_or, option_and_then}
use Rattle.std.proofs.Math.Seq.{take-length}
use Rattle.std.proofs.lemmas.List.{get_or-drop, get_or-take}
use Rattle.std.proofs.lemmas.Option.{slice_get_within, get_or_from_slice_get, same_Some, none-some}
use Rattle.xvalue.specs.declared.value.Value.{Value}
use Rattle.code_items.specs.declared.code.Code.{Code}
use Rattle.code_items.specs.declared.instr.ValueInstr.{ValueInstr}
use Rattle.code_items.specs.declared.instr.ValueInstr.TheVariants as value_instr
use Rattle.code_items.specs.declared.instr.RecordInstr.{RecordInstr}
use Rattle.code_items.specs.declared.instr.RecordInstr.TheVariants as record_instr
use Rattle.code_items.specs.declared.instr.Instr.{Instr}
use Rattle.code_items.specs.declared.instr.Instr.TheVariants.{Values, Flow, Screen, Areas, Moves, Records}
use Rattle.code_items.specs.declared.instr.FlowInstr.TheVariants.{End}
use Rattle.code_items.specs.Legal.{places_of}
use Rattle.code_rules.specs.Places.{instr_at}
use Rattle.open_table.specs.Open.{OpenState, field_of}
use Rattle.work_area.specs.Areas.{area_table, here}
use Rattle.run_values.specs.Tagged.{TaggedValues, loaded_value, pushed}
use Rattle.run_steps.specs.World.{World, EnvState}
use Rattle.run_steps.specs.Control.{effect, finishes}
use Rattle.run_steps.specs.Effects.{with_pushed, on_table, answer, cost_of_instr}
use Rattle.run_steps.specs.Run.{step_of, next_world, after, spent, cost_in, cost_at, cost_of, appends, holds_all}
use Rattle.run_steps.specs.Faults.{fault_of, IsClear}
use Rattle.run_steps.specs.Safe.{IsSafe}
use Rattle.expr_laws.specs.Seeing.{IsThere, HasWay}
use Rattle.run_laws.proofs.Tests.{is_there}
use Rattle.expr_laws.proofs.Machines.{Run, through}
use Rattle.expr_laws.proofs.Passes.{world_run, Passes, AllPass, ready_at, clear_there}

-- an instruction that only reads

abbrev pub value_reads : ValueInstr → Bool
value_reads (value_instr.Constant n) = true
value_reads (value_instr.Load k s) = true
value_reads (value_instr.Function f) = true
value_reads value_instr.Today = true
value_reads _ = false

abbrev pub record_reads : RecordInstr → Bool
record_reads (record_instr.Field a f) = true
record_reads (record_instr.RowField f) = true
record_reads (record_instr.Ask q) = true
record_reads _ = false

abbrev pub only_reads : Instr → Bool
only_reads (Values i) = value_reads i
only_reads (Records i) = record_reads i
only_reads _ = false

abbrev pub AllRead : List Instr → Type 0
AllRead [] = Unit {0}
AllRead (i ∷ is) = (only_reads i ≡ true) × AllRead is

-- a world so many places further, with this stack
abbrev pub moved : ℕ → List Value → World → World
moved n st w = record {
  place = w.place + n;
  returns = w.returns;
  values = record { slots = w.values.slots; stack = st };
  env = w.env;
}

pushes_apart : (x : Option Value) (t : TaggedValues)
    → with_pushed x t ≡ record {
      slots = t.slots;
      stack = (with_pushed x (record { slots = t.slots; stack = t.stack })).stack;
    }
pushes_apart None t = refl
pushes_apart (Some v) t = refl

loads_apart : (x : Option (Option Value)) (t : TaggedValues)
    → loaded_value x t ≡ record {
      slots = t.slots;
      stack = (loaded_value x (record { slots = t.slots; stack = t.stack })).stack;
    }
loads_apart None t = refl
loads_apart (Some None) t = refl
loads_apart (Some (Some v)) t = refl

asks_apart : (x : Option OpenState) (f : OpenState → Value) (t : TaggedValues)
    → on_table x t (λ o. pushed (f o) t)
    ≡ record {
      slots = t.slots;
      stack = (on_table x (record { slots = t.slots; stack = t.stack })
          (λ o. pushed (f o) (record { slots = t.slots; stack = t.stack }))).stack;
    }
asks_apart None f t = refl
asks_apart (Some o) f t = refl

abbrev with_values : TaggedValues → World → World
with_values t v = record { place = v.place + 1; returns = v.returns; values = t; env = v.env }

pub step_moves : (code : Code) (v : World) (i : Instr) → only_reads i ≡ true
    → effect code v i ≡ moved 1 (world_run code v.values.slots v.env i v.values.stack) v
step_moves code v (Values (value_instr.Constant n)) e =
    ap (λ t. with_values t v) (pushes_apart (slice_get code.declared.constants n) v.values)
step_moves code v (Values (value_instr.Load k s)) e =
    ap (λ t. with_values t v) (loads_apart (slice_get v.values.slots s) v.values)
step_moves code v (Values (value_instr.Function f)) e = refl
step_moves code v (Values value_instr.Today) e = refl
step_moves code v (Values (value_instr.Store k s)) e = absurd (cc)
step_moves code v (Values (value_instr.Unset s)) e = absurd (cc)
step_moves code v (Values (value_instr.Discard k)) e = absurd (cc)
step_moves code v (Values (value_instr.Set x on)) e = absurd (cc)
step_moves code v (Records (record_instr.Field a f)) e =
    ap (λ t. with_values t v) (asks_apart (area_table v.env.store a) (field_of f) v.values)
step_moves code v (Records (record_instr.RowField f)) e = refl
step_moves code v (Records (record_instr.Ask q)) e =
    ap (λ t. with_values t v) (asks_apart (here v.env.store) (answer q) v.values)
step_moves code v (Records record_instr.Append) e = absurd (cc)
step_moves code v (Records (record_instr.Replace f)) e = absurd (cc)
step_moves code v (Records record_instr.Delete) e = absurd (cc)
step_moves code v (Records record_instr.Recall) e = absurd (cc)
step_moves code v (Records record_instr.Pack) e = absurd (cc)
step_moves code v (Records record_instr.Zap) e = absurd (cc)
step_moves code v (Records record_instr.Reindex) e = absurd (cc)
step_moves code v (Records (record_instr.Index l)) e = absurd (cc)
step_moves code v (Flow i) e = absurd (cc)
step_moves code v (Screen i) e = absurd (cc)
step_moves code v (Areas i) e = absurd (cc)
step_moves code v (Moves i) e = absurd (cc)

goes_on : (v : World) (i : Instr) → only_reads i ≡ true → finishes v i ≡ false
goes_on v (Values i) e = refl
goes_on v (Records i) e = refl
goes_on v (Flow i) e = absurd (cc)
goes_on v (Screen i) e = refl
goes_on v (Areas i) e = refl
goes_on v (Moves i) e = refl

costs_one : (code : Code) (i : Instr) (t : TaggedValues) (e : EnvState) → only_reads i ≡ true
    → cost_of_instr code i t e ≡ 1
costs_one code (Values i) t e h = refl
costs_one code (Records (record_instr.Field a f)) t e h = refl
costs_one code (Records (record_instr.RowField f)) t e h = refl
costs_one code (Records (record_instr.Ask q)) t e h = refl
costs_one code (Records record_instr.Append) t e h = refl
costs_one code (Records (record_instr.Replace f)) t e h = refl
costs_one code (Records record_instr.Delete) t e h = refl
costs_one code (Records record_instr.Recall) t e h = refl
costs_one code (Records record_instr.Pack) t e h = absurd (cc)
costs_one code (Records record_instr.Zap) t e h = absurd (cc)
costs_one code (Records record_instr.Reindex) t e h = absurd (cc)
costs_one code (Records (record_instr.Index l)) t e h = absurd (cc)
costs_one code (Flow i) t e h = refl
costs_one code (Screen i) t e h = refl
costs_one code (Areas i) t e h = absurd (cc)
costs_one code (Moves i) t e h = absurd (cc)

-- ---- a block

all_read_at : (block : List Instr) (n : ℕ) (i : Instr) → AllRead block → slice_get block n ≡ Some i
    → only_reads i ≡ true
all_read_at [] n i h e = absurd (none-some i e)
all_read_at (j ∷ js) zero i h e = subst (λ x. only_reads x ≡ true) (same_Some j i e) h.0
all_read_at (j ∷ js) (suc n) i h e = all_read_at js n i h.1 e

through_next : (run : Run) (block : List Instr) (n : ℕ) (i : Instr) (st : List Value) → slice_get block n ≡ Some i
    → through run (take (suc n) block) st ≡ run i (through run (take n block) st)
through_next run [] n i st e = absurd (none-some i e)
through_next run (j ∷ js) zero i st e = ap (λ x. run x st) (same_Some j i e)
through_next run (j ∷ js) (suc n) i st e = through_next run js n i (run j st) e

there_at : (code : Code) (place : ℕ) (block : List Instr) (n : ℕ) (i : Instr) → IsThere code place block
    → slice_get block n ≡ Some i → instr_at code (place + n) ≡ i
there_at code place block n i there e =
    let lt : n < length block = slice_get_within block n i e in
    sym (get_or-drop place code.instructions n (Flow End))
    ∙ sym (get_or-take (length block) (drop place code.instructions) n (Flow End) lt)
    ∙ ap (λ (xs : List Instr). slice_index_or xs n (Flow End)) there ∙ get_or_from_slice_get block n i (Flow End) e

-- the world behind so many of the instructions
abbrev pub come_to : Code → World → List Instr → ℕ → World
come_to code w block n = moved n (through (world_run code w.values.slots w.env) (take n block) w.values.stack) w

-- where the run comes to, no instruction has a fault
pub record Going (code : Code) (w : World) (block : List Instr) : Type 0 where
  pub sound : (n : ℕ) (i : Instr) → slice_get block n ≡ Some i → after code w n ≡ Some (come_to code w block n)
      → fault_of code (come_to code w block n) i ≡ None

-- a run from a world that is safe
pub safely : (code : Code) (w : World) (block : List Instr) → IsThere code w.place block → IsSafe code w
    → Going code w block
safely code w block there safe =
    record {
      sound = λ n i at here. subst (λ (j : Instr). fault_of code (come_to code w block n) j ≡ None)
          (there_at code w.place block n i there at) (safe n (come_to code w block n) here).sound;
    }

-- and one in which each instruction passes its tests, with room and a place behind it
pub clearly : (code : Code) (w : World) (block : List Instr)
    → ((v : World) (i : Instr) → IsClear code v i → fault_of code v i ≡ None) → HasWay code w block
    → AllPass (Passes code w.values.slots w.env) (world_run code w.values.slots w.env) block w.values.stack
    → Going code w block
clearly code w block faultless way all = record {
  sound = λ n i at here.
      let r = ready_at code w.values.slots w.env code.declared.stack_bound block w.values.stack all way.room n i at in
      let lt : n < length block = slice_get_within block n i at in
      let behind : w.place + length block < places_of code.procedures = way.behind in
      let next : w.place + n + 1 < places_of code.procedures = omega (arith, lt, behind) in
      faultless (come_to code w block n) i (clear_there code (come_to code w block n) i r.passes next r.room);
}

adds_none : (i : Instr) → only_reads i ≡ true → appends i ≡ false
adds_none (Values i) reads = refl
adds_none (Records i) reads = of_records i reads
  where
    of_records : (r : RecordInstr) → record_reads r ≡ true → appends (Records r) ≡ false
    of_records record_instr.Append reads = absurd (cc)
    of_records _ reads = refl
adds_none _ reads = refl

step_on : (code : Code) (v : World) (i : Instr) → fault_of code v i ≡ None → instr_at code v.place ≡ i
    → only_reads i ≡ true → next_world (step_of code v)
    ≡ Some (moved 1 (world_run code v.values.slots v.env i v.values.stack) v)
unfolding step_of
step_on code v i sound is reads =
    let goes : finishes v (instr_at code v.place) ≡ false = ap (finishes v) is ∙ goes_on v i reads in
    next_is ∙ ap (λ (x : World). Some x) (ap (effect code v) is ∙ step_moves code v i reads)
  where
    next_is : next_world (step_of code v) ≡ Some (effect code v (instr_at code v.place))
    next_is =
        let room = ap (λ b. b && holds_all v.env.store.limit (here v.env.store)) (ap appends is ∙ adds_none i reads) in
        rw (ap (fault_of code v) is ∙ sound, ap (finishes v) is ∙ goes_on v i reads, room) refl

-- what the run comes to after some of the instructions, and what they cost
record Reached (code : Code) (w : World) (block : List Instr) (n : ℕ) : Type 0 where
  at : after code w n ≡ Some (come_to code w block n)
  cost : spent code w n ≡ n

cost_here : (code : Code) (v : World) (i : Instr) → instr_at code v.place ≡ i → only_reads i ≡ true → cost_of code v ≡ 1
unfolding cost_at
cost_here code v i is only = ap (λ (j : Instr). cost_of_instr code j v.values v.env) is
    ∙ costs_one code i v.values v.env only

next_reached : (code : Code) (w : World) (block : List Instr) → Going code w block → IsThere code w.place block
    → AllRead block → (n : ℕ) → n < length block → Reached code w block n → Reached code w block (suc n)
next_reached code w block going there reads n lt r =
    let run = world_run code w.values.slots w.env in
    let st = through run (take n block) w.values.stack in
    let v = come_to code w block n in
    let x = is_there block n lt in
    let i : Instr = x.0 in
    let is : instr_at code v.place ≡ i = there_at code w.place block n i there x.1 in
    let only = all_read_at block n i reads x.1 in
    let step = step_on code v i (going.sound n i x.1 r.at) is only in
    let place : (w.place + n) + 1 ≡ w.place + suc n = omega arith in
    let ends : moved 1 (run i st) v ≡ moved (suc n) (through run (take (suc n) block) w.values.stack) w =
    ap (λ (p : ℕ). record {
      place = p;
      returns = w.returns;
      values = record { slots = w.values.slots; stack = run i st };
      env = w.env;
    }) place
    ∙ ap (λ (s : List Value). moved (suc n) s w) (sym (through_next run block n i w.values.stack x.1)) in
    let paid : cost_in code (after code w n) ≡ 1 = ap (cost_in code) r.at ∙ cost_here code v i is only in record {
      at = ap (λ (o : Option World). option_and_then (λ u. next_world (step_of code u)) o) r.at ∙ step
          ∙ ap (λ (u : World). Some u) ends;
      cost = omega (arith, r.cost, paid);
    }

reached : (code : Code) (w : World) (block : List Instr) → Going code w block → IsThere code w.place block
    → AllRead block → (n : ℕ) → n ≤ length block → Reached code w block n
reached code w block going there reads zero le =
    record {
      at = ap (λ (p : ℕ). Some (record { place = p; returns = w.returns; values = w.values; env = w.env }))
          (omega arith);
      cost = refl;
    }
reached code w block going there reads (suc n) le = next_reached code w block going there reads n (omega (arith, le))
    (reached code w block going there reads n (omega (arith, le)))

-- the whole block: one step an instruction, and the stack alone is changed
pub record RanThrough (code : Code) (w : World) (block : List Instr) : Type 0 where
  pub at : after code w (length block) ≡ Some
      (moved (length block) (through (world_run code w.values.slots w.env) block w.values.stack) w)
  pub cost : spent code w (length block) ≡ length block

pub ran_through : (code : Code) (w : World) (block : List Instr) → Going code w block → IsThere code w.place block
    → AllRead block → RanThrough code w block
ran_through code w block going there reads =
    let r = reached code w block going there reads (length block) (omega arith) in
    record {
      at = r.at ∙ ap (λ (is : List Instr). Some
          (moved (length block) (through (world_run code w.values.slots w.env) is w.values.stack) w))
          (take-length block);
      cost = r.cost;
    }
