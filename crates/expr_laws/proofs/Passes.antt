-- The instructions of expressions pass the tests of a world, the room on its stack aside.
use Rattle.std.proofs.Common.{◌≡◌, ◌<◌, ◌≤◌, ℕ, zero, suc, ◌+◌, ◌-◌, false, not, List, [], ◌∷◌, ◌++◌, length, map}
use Rattle.std.proofs.Common.{reverse, take, drop, Option, Some, refl, sym, ap, ◌∙◌, subst, arith}
use Rattle.std.specs.Prelude.{slice_get, is_none, nat_lt, nat_le}
use Rattle.std.proofs.lemmas.Bool.{le-ltb, or_from}
use Rattle.std.proofs.lemmas.List.{length-map, length-drop, length-append, length-reverse}
use Rattle.std.proofs.lemmas.Option.{slice_get_within, same_Some, none-some}
use Rattle.xvalue.specs.declared.kind.Kind.{Kind}
use Rattle.xvalue.specs.declared.fun.Fun.{Fun}
use Rattle.xvalue.specs.declared.value.Value.{Value}
use Rattle.xvalue.specs.Kinds.{kind_of, same_kind}
use Rattle.xvalue.specs.Signature.{takes_of}
use Rattle.work_area.specs.Areas.{StoreState}
use Rattle.code_items.specs.declared.code.Code.{Code}
use Rattle.code_items.specs.declared.state.State.{State}
use Rattle.code_items.specs.declared.instr.Instr.{Instr}
use Rattle.code_items.specs.declared.instr.Instr.TheVariants.{Values, Records}
use Rattle.code_items.specs.declared.instr.Question.{Question}
use Rattle.code_items.specs.declared.instr.ValueInstr.TheVariants as value_instr
use Rattle.code_items.specs.declared.instr.RecordInstr.TheVariants as record_instr
use Rattle.code_items.specs.Desks.{open_at}
use Rattle.code_items.specs.Kinds.{clashes}
use Rattle.code_items.specs.Legal.{places_of}
use Rattle.code_rules.specs.Rules.{has_other, is_free, loads_free, order_fails, opens_twice, height_after, no_field}
use Rattle.code_rules.specs.Rules.{undeclared}
use Rattle.run_steps.specs.World.{World, EnvState, kind_held, desk_of}
use Rattle.run_steps.specs.Effects.{values_after}
use Rattle.run_steps.specs.Faults.{wrong_kind, closed_area, empty_stack, bad_jump, deep_call, lists_other, bad_filter}
use Rattle.run_steps.specs.Faults.{IsClear}
use Rattle.run_laws.proofs.Tests.{mapped_at}
use Rattle.expr_laws.specs.Seeing.{StaysWithin}
use Rattle.expr_laws.proofs.Areas.{past}
use Rattle.expr_laws.proofs.Machines.{Run, onto, through}
use Rattle.code_rules.proofs.Covering.{kind_self}
use Rattle.expr_laws.proofs.Stacks.{onto_is}

-- an instruction's effect on the stack of a world
abbrev pub world_run : Code → List (Option Value) → EnvState → Run
world_run code slots e i st = (values_after code i (record { slots = slots; stack = st }) e).stack

-- what a verifier that knew all would know of these slots and work areas, and of this stack
abbrev pub seen_state : List (Option Value) → StoreState → List Value → State
seen_state slots store st = record { desk = desk_of store; slots = map kind_held slots; stack = map kind_of st }

-- it goes on behind itself, calls and opens nothing and moves no pointer
pub record Quiet (code : Code) (s : State) (i : Instr) : Type 0 where
  pub jump : (w : World) → bad_jump code w i ≡ nat_le (places_of code.procedures) (w.place + 1)
  pub order : order_fails code.declared s.desk i ≡ false
  pub once : opens_twice s.desk i ≡ false
  pub deep : (w : World) → deep_call w i ≡ false
  pub lists : lists_other code.declared s.desk i ≡ false
  pub filter : bad_filter code s i ≡ false

-- no other test fails, and the stack is as high behind the instruction as its signature says
pub record Passes (code : Code) (slots : List (Option Value)) (e : EnvState) (i : Instr)
    (st : List Value) : Type 0 where
  pub kind : wrong_kind code (seen_state slots e.store st) i ≡ false
  pub set : loads_free (seen_state slots e.store st) i ≡ false
  pub area : closed_area (seen_state slots e.store st) i ≡ false
  pub there : empty_stack (seen_state slots e.store st) i ≡ false
  pub declared : undeclared code (desk_of e.store) i ≡ false
  pub height : length (world_run code slots e i st) ≡ height_after (length st) i
  pub quiet : Quiet code (seen_state slots e.store st) i

-- ---- tests

-- kinds don't clash with themselves on top of others
no_clash : (ks ls : List Kind) → clashes ks (ks ++ ls) ≡ false
no_clash [] ls = refl
no_clash (k ∷ ks) ls = or_from (not (same_kind k k)) (clashes ks (ks ++ ls)) (ap not (kind_self k)) (no_clash ks ls)

map_onto : (vs st : List Value) → map kind_of (onto vs st) ≡ onto (map kind_of vs) (map kind_of st)
map_onto [] st = refl
map_onto (v ∷ vs) st = map_onto vs (v ∷ st)

next : (n : ℕ) → suc n ≡ n + 1
next n = omega arith

-- nothing is taken from a stack
takes_none : (st : List Value) → nat_lt (length (map kind_of st)) 0 ≡ false
takes_none st = le-ltb (length (map kind_of st)) 0 (omega arith)

-- and one value is put on it
one_more : (st put : List Value) (c : Value) → put ≡ c ∷ st → length put ≡ length st - 0 + 1
one_more st put c e = ap (λ (xs : List Value). length xs) e ∙ raised (length st)
  where
    raised : (n : ℕ) → suc n ≡ n - 0 + 1
    raised n = omega arith

-- ---- instructions

module _ (code : Code) (slots : List (Option Value)) (e : EnvState) where
  pub constant_passes : (n : ℕ) (c : Value) (st : List Value) → slice_get code.declared.constants n ≡ Some c
      → world_run code slots e (Values (value_instr.Constant n)) st ≡ c ∷ st
      → Passes code slots e (Values (value_instr.Constant n)) st
  constant_passes n c st at put = record {
    kind = refl;
    set = refl;
    area = refl;
    there = takes_none st;
    declared = past (length code.declared.constants) n (slice_get_within code.declared.constants n c at);
    height = one_more st (world_run code slots e (Values (value_instr.Constant n)) st) c put;
    quiet = record { jump = λ w. refl; order = refl; once = refl; deep = λ w. refl; lists = refl; filter = refl };
  }

  pub today_passes : (c : Value) (st : List Value) → world_run code slots e (Values value_instr.Today) st ≡ c ∷ st
      → Passes code slots e (Values value_instr.Today) st
  today_passes c st put = record {
    kind = refl;
    set = refl;
    area = refl;
    there = takes_none st;
    declared = refl;
    height = one_more st (world_run code slots e (Values value_instr.Today) st) c put;
    quiet = record { jump = λ w. refl; order = refl; once = refl; deep = λ w. refl; lists = refl; filter = refl };
  }

  -- the arguments have the kinds that are taken
  pub function_passes : (f : Fun) (vs st : List Value) → map kind_of vs ≡ takes_of f
      → Passes code slots e (Values (value_instr.Function f)) (onto vs st)
  function_passes f vs st kinds =
      let all : map kind_of (onto vs st) ≡ reverse (takes_of f) ++ map kind_of st =
      map_onto vs st ∙ ap (λ (ks : List Kind). onto ks (map kind_of st)) kinds
      ∙ onto_is (takes_of f) (map kind_of st) in
      let many : length (map kind_of (onto vs st)) ≡ length (takes_of f) + length (map kind_of st) =
      ap (λ (ks : List Kind). length ks) all ∙ length-append (reverse (takes_of f)) (map kind_of st)
      ∙ ap (λ (n : ℕ). n + length (map kind_of st)) (length-reverse (takes_of f)) in
      let left : length (drop (length (takes_of f)) (onto vs st)) ≡ length (onto vs st) - length (takes_of f) =
      length-drop (length (takes_of f)) (onto vs st) in record {
        kind = or_from (clashes (reverse (takes_of f)) (map kind_of (onto vs st))) false
            (ap (clashes (reverse (takes_of f))) all ∙ no_clash (reverse (takes_of f)) (map kind_of st)) refl;
        set = refl;
        area = refl;
        there = le-ltb (length (map kind_of (onto vs st))) (length (takes_of f)) (omega (arith, many));
        declared = refl;
        height = ap suc left ∙ next (length (onto vs st) - length (takes_of f));
        quiet = record { jump = λ w. refl; order = refl; once = refl; deep = λ w. refl; lists = refl; filter = refl };
      }

  -- the slot holds a value of the kind
  pub load_passes : (k : Kind) (slot : ℕ) (c : Value) (st : List Value) → length slots ≡ code.declared.slots
      → slice_get slots slot ≡ Some (Some c) → kind_of c ≡ k
      → world_run code slots e (Values (value_instr.Load k slot)) st ≡ c ∷ st
      → Passes code slots e (Values (value_instr.Load k slot)) st
  load_passes k slot c st count at same put =
      let seen : slice_get (map kind_held slots) slot ≡ Some (Some (kind_of c)) =
      mapped_at kind_held slots slot (Some c) at in
      let few : slot < length slots = slice_get_within slots slot (Some c) at in record {
        kind = ap (has_other k) seen ∙ ap (λ (l : Kind). not (same_kind l k)) same ∙ ap not (kind_self k);
        set = ap is_free seen;
        area = refl;
        there = takes_none st;
        declared = past code.declared.slots slot (omega (arith, few, count));
        height = one_more st (world_run code slots e (Values (value_instr.Load k slot)) st) c put;
        quiet = record { jump = λ w. refl; order = refl; once = refl; deep = λ w. refl; lists = refl; filter = refl };
      }

  -- the work area is open, and its table has the field
  pub field_passes : (n f : ℕ) (c : Value) (st : List Value) → is_none (open_at (desk_of e.store) n) ≡ false
      → no_field code.declared (desk_of e.store) n f ≡ false
      → world_run code slots e (Records (record_instr.Field n f)) st ≡ c ∷ st
      → Passes code slots e (Records (record_instr.Field n f)) st
  field_passes n f c st opened has put = record {
    kind = refl;
    set = refl;
    area = opened;
    there = takes_none st;
    declared = has;
    height = one_more st (world_run code slots e (Records (record_instr.Field n f)) st) c put;
    quiet = record { jump = λ w. refl; order = refl; once = refl; deep = λ w. refl; lists = refl; filter = refl };
  }

  -- the selected work area is open
  pub question_passes : (q : Question) (c : Value) (st : List Value)
      → is_none (open_at (desk_of e.store) e.store.selected) ≡ false
      → world_run code slots e (Records (record_instr.Ask q)) st ≡ c ∷ st
      → Passes code slots e (Records (record_instr.Ask q)) st
  question_passes q c st opened put = record {
    kind = refl;
    set = refl;
    area = opened;
    there = takes_none st;
    declared = refl;
    height = one_more st (world_run code slots e (Records (record_instr.Ask q)) st) c put;
    quiet = record { jump = λ w. refl; order = refl; once = refl; deep = λ w. refl; lists = refl; filter = refl };
  }

-- with room on the stack and a place behind it no test fails
pub clear_there : (code : Code) (w : World) (i : Instr) → Passes code w.values.slots w.env i w.values.stack
    → w.place + 1 < places_of code.procedures → height_after (length w.values.stack) i ≤ code.declared.stack_bound
    → IsClear code w i
clear_there code w i p behind room = record {
  kind = p.kind;
  set = p.set;
  area = p.area;
  there = p.there;
  room = ap (λ (n : ℕ). nat_lt code.declared.stack_bound (height_after n i)) (length-map w.values.stack kind_of)
      ∙ le-ltb code.declared.stack_bound (height_after (length w.values.stack) i) room;
  jump = p.quiet.jump w ∙ past (places_of code.procedures) (w.place + 1) behind;
  order = p.quiet.order;
  once = p.quiet.once;
  deep = p.quiet.deep w;
  declared = or_from (undeclared code (desk_of w.env.store) i) (lists_other code.declared (desk_of w.env.store) i)
      p.declared p.quiet.lists;
  filter = p.quiet.filter;
}

-- ---- a block

-- each instruction passes its tests on the stack on which it runs
abbrev pub AllPass : (Instr → List Value → Type 0) → Run → List Instr → List Value → Type 0
AllPass test run [] st = Unit {0}
AllPass test run (i ∷ is) st = test i st × AllPass test run is (run i st)

pub both_pass : (test : Instr → List Value → Type 0) (run : Run) (first last : List Instr) (st : List Value)
    → AllPass test run first st → AllPass test run last (through run first st) → AllPass test run (first ++ last) st
both_pass test run [] last st one other = other
both_pass test run (i ∷ is) last st one other = (one.0, both_pass test run is last (run i st) one.1 other)

-- an instruction that passes its tests, with room on the stack
pub record Ready (code : Code) (slots : List (Option Value)) (e : EnvState) (bound : ℕ) (i : Instr)
    (st : List Value) : Type 0 where
  pub passes : Passes code slots e i st
  pub room : height_after (length st) i ≤ bound

pub ready_at : (code : Code) (slots : List (Option Value)) (e : EnvState) (bound : ℕ) (block : List Instr)
    (st : List Value) → AllPass (Passes code slots e) (world_run code slots e) block st
    → StaysWithin bound (length st) block
    → (n : ℕ) (i : Instr) → slice_get block n ≡ Some i
    → Ready code slots e bound i (through (world_run code slots e) (take n block) st)
ready_at code slots e bound [] st all room n i at = absurd (none-some i at)
ready_at code slots e bound (j ∷ js) st all room zero i at =
    subst (λ (x : Instr). Ready code slots e bound x st) (same_Some j i at) (record { passes = all.0; room = room.0 })
ready_at code slots e bound (j ∷ js) st all room (suc n) i at =
    ready_at code slots e bound js (world_run code slots e j st) all.1
    (subst (λ (m : ℕ). StaysWithin bound m js) (sym all.0.height) room.1) n i at
