-- What instructions on values, on the flow of control and on the screen need is there where their tests come out well.
use Rattle.std.proofs.Common.{◌≡◌, ℕ, ◌<◌, ◌≤◌, false, [], ◌∷◌, length, arith}
use Rattle.std.specs.Prelude.{map, reverse, nat_le, slice_get}
use Rattle.std.proofs.lemmas.Bool.{leb-false}
use Rattle.std.proofs.lemmas.List.{length-map, length-reverse}
use Rattle.xvalue.specs.declared.kind.Kind.{Kind}
use Rattle.xvalue.specs.declared.kind.Kind.TheVariants.{Number as OfNumber, Logical as OfLogical}
use Rattle.xvalue.specs.Kinds.{kind_of}
use Rattle.xvalue.specs.Signature.{takes_of}
use Rattle.code_items.specs.declared.code.Code.{Code}
use Rattle.code_items.specs.declared.instr.Instr.TheVariants.{Values, Flow, Screen}
use Rattle.code_items.specs.declared.instr.ValueInstr.{ValueInstr}
use Rattle.code_items.specs.declared.instr.ValueInstr.TheVariants.{Constant, Load, Store, Unset, Discard, Function}
use Rattle.code_items.specs.declared.instr.ValueInstr.TheVariants.{Today, Set}
use Rattle.code_items.specs.declared.instr.FlowInstr.{FlowInstr}
use Rattle.code_items.specs.declared.instr.FlowInstr.TheVariants.{Jump, JumpFalse, Call, Return, End}
use Rattle.code_items.specs.declared.instr.ScreenInstr.{ScreenInstr}
use Rattle.code_items.specs.declared.instr.ScreenInstr.TheVariants.{NewLine, Print, Say, SayOn, Input, Line, Clear}
use Rattle.code_items.specs.Facts.{Facts}
use Rattle.code_items.specs.Kinds.{clashes}
use Rattle.code_rules.specs.Rules.{has_other}
use Rattle.run_values.specs.Tagged.{HasOnTop}
use Rattle.run_steps.specs.World.{World, state_of, kind_held}
use Rattle.run_steps.specs.Faults.{IsClear}
use Rattle.run_steps.specs.Needs.{ValueNeeds, FlowNeeds, ScreenNeeds, FlowFits}
use Rattle.run_laws.proofs.Known.{Known}
use Rattle.run_laws.proofs.Tests.{Same, first_no, second_no, on_top, slot_holds, enough, room_for}

-- a slot that is declared is there
slot_there : (code : Code) (w : World) (s : ℕ) → Known code.declared (state_of w) → nat_le code.declared.slots s ≡ false
    → s < length w.values.slots
slot_there code w s k e = omega (arith, leb-false code.declared.slots s e, k.slots, length-map w.values.slots kind_held)

few : (code : Code) (w : World) → Facts code → Known code.declared (state_of w) → length w.values.stack ≤ 64
few code w f k = omega (arith, f.stack_bound, k.stack, length-map w.values.stack kind_of)

-- one value of a kind on top
one_on_top : Same → (w : World) (k : Kind) → clashes (k ∷ []) (state_of w).stack ≡ false → 1 ≤ length w.values.stack
    → HasOnTop (k ∷ []) w.values.stack
one_on_top same w k e le = on_top same (k ∷ []) w.values.stack e (omega (arith, le))

pub value_ready : Same → (code : Code) (w : World) → Facts code → Known code.declared (state_of w) → (i : ValueInstr)
    → IsClear code w (Values i) → ValueNeeds code i w.values
value_ready same code w f k (Constant n) c = (
  leb-false (length code.declared.constants) n
      (first_no (nat_le (length code.declared.constants) n) false c.declared),
  room_for code.declared.stack_bound
      w.values.stack f.stack_bound c.room,
)
value_ready same code w f k (Load kind s) c = (
  slot_holds same kind w.values.slots s
      (slot_there code w s k (first_no (nat_le code.declared.slots s) false c.declared))
      (second_no false (has_other kind (slice_get (map kind_held w.values.slots) s)) c.kind) c.set,
  room_for code.declared.stack_bound w.values.stack f.stack_bound c.room,
)
value_ready same code w f k (Store kind s) c = (
  one_on_top same w kind (first_no (clashes (kind ∷ []) (state_of w).stack) false c.kind)
      (enough w.values.stack 1 c.there),
  slot_there code w s k (first_no (nat_le code.declared.slots s) false c.declared),
)
value_ready same code w f k (Unset s) c =
    slot_there code w s k (first_no (nat_le code.declared.slots s) false c.declared)
value_ready same code w f k (Discard kind) c =
    one_on_top same w kind (first_no (clashes (kind ∷ []) (state_of w).stack) false c.kind)
    (enough w.values.stack 1 c.there)
value_ready same code w f k (Function fun) c = (
  on_top same (reverse (takes_of fun)) w.values.stack
      (first_no (clashes (reverse (takes_of fun)) (state_of w).stack) false c.kind)
      (omega (arith, enough w.values.stack (length (takes_of fun)) c.there, length-reverse (takes_of fun))),
  few code w f k,
)
value_ready same code w f k Today c = room_for code.declared.stack_bound w.values.stack f.stack_bound c.room
value_ready same code w f k (Set setting on) c = tt

pub flow_ready : Same → (code : Code) (w : World) (i : FlowInstr) → IsClear code w (Flow i) → FlowNeeds i w.values
flow_ready same code w (Jump p) c = tt
flow_ready same code w (JumpFalse p) c =
    one_on_top same w OfLogical (first_no (clashes (OfLogical ∷ []) (state_of w).stack) false c.kind)
    (enough w.values.stack 1 c.there)
flow_ready same code w (Call n) c = tt
flow_ready same code w Return c = tt
flow_ready same code w End c = tt

-- a call has room for its return place
pub flow_fits : (code : Code) (w : World) (i : FlowInstr) → IsClear code w (Flow i) → FlowFits i w.returns
flow_fits code w (Jump p) c = tt
flow_fits code w (JumpFalse p) c = tt
flow_fits code w (Call n) c = leb-false 20 (length w.returns) c.deep
flow_fits code w Return c = tt
flow_fits code w End c = tt

pub screen_ready : Same → (code : Code) (w : World) → Facts code → Known code.declared (state_of w) → (i : ScreenInstr)
    → IsClear code w (Screen i) → ScreenNeeds i w.values
screen_ready same code w f k NewLine c = tt
screen_ready same code w f k (Print kind) c =
    one_on_top same w kind (first_no (clashes (kind ∷ []) (state_of w).stack) false c.kind)
    (enough w.values.stack 1 c.there)
screen_ready same code w f k (Say kind) c =
    on_top same (kind ∷ OfNumber ∷ OfNumber ∷ []) w.values.stack
    (first_no (clashes (kind ∷ OfNumber ∷ OfNumber ∷ []) (state_of w).stack) false c.kind)
    (omega (arith, enough w.values.stack 3 c.there))
screen_ready same code w f k (SayOn kind) c =
    one_on_top same w kind (first_no (clashes (kind ∷ []) (state_of w).stack) false c.kind)
    (enough w.values.stack 1 c.there)
screen_ready same code w f k (Input kind) c = (
  one_on_top same w kind (first_no (clashes (kind ∷ []) (state_of w).stack) false c.kind)
      (enough w.values.stack 1 c.there),
  few code w f k,
)
screen_ready same code w f k Line c = room_for code.declared.stack_bound w.values.stack f.stack_bound c.room
screen_ready same code w f k Clear c = tt
