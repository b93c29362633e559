-- The first test that fails, and none that does.
use Rattle.std.proofs.Common.{◌≡◌, Bool, true, false, Option, Some, None, refl, cond}
use Rattle.code_items.specs.declared.code.Code.{Code}
use Rattle.code_items.specs.declared.instr.Instr.{Instr}
use Rattle.code_rules.specs.Rules.{loads_free, order_fails, opens_twice}
use Rattle.run_steps.specs.declared.fault.FaultKind.{FaultKind}
use Rattle.run_steps.specs.declared.fault.FaultKind.TheVariants.{WrongKind, Unset, ClosedArea, EmptyStack, StackOver}
use Rattle.run_steps.specs.declared.fault.FaultKind.TheVariants.{BadJump, NoOrder, OpenTwice, DeepCall, BadField}
use Rattle.run_steps.specs.declared.fault.FaultKind.TheVariants.{BadFilter}
use Rattle.run_steps.specs.World.{World, state_of}
use Rattle.run_steps.specs.Faults.{wrong_kind, closed_area, empty_stack, stack_over, bad_jump, deep_call, bad_field}
use Rattle.run_steps.specs.Faults.{bad_filter, fault_of, IsClear}

-- a chain of tests that comes to its end passed each of them
passes : (b : Bool) (k : FaultKind) (o : Option FaultKind) → cond b (Some k) o ≡ None → (b ≡ false) × (o ≡ None)
passes true k o e = absurd (cc)
passes false k o e = (refl, e)

pub clear_from : (code : Code) (w : World) (i : Instr) → fault_of code w i ≡ None → IsClear code w i
unfolding fault_of
clear_from code w i e =
    let a = passes (wrong_kind code (state_of w) i) WrongKind _ e in
    let b = passes (loads_free (state_of w) i) Unset _ a.1 in
    let c = passes (closed_area (state_of w) i) ClosedArea _ b.1 in
    let d = passes (empty_stack (state_of w) i) EmptyStack _ c.1 in
    let f = passes (stack_over code (state_of w) i) StackOver _ d.1 in
    let g = passes (bad_jump code w i) BadJump _ f.1 in
    let h = passes (order_fails code.declared (state_of w).desk i) NoOrder _ g.1 in
    let j = passes (opens_twice (state_of w).desk i) OpenTwice _ h.1 in
    let k = passes (deep_call w i) DeepCall _ j.1 in
    let l = passes (bad_field code (state_of w) i) BadField _ k.1 in
    let m = passes (bad_filter code (state_of w) i) BadFilter _ l.1 in
    record {
      kind = a.0;
      set = b.0;
      area = c.0;
      there = d.0;
      room = f.0;
      jump = g.0;
      order = h.0;
      once = j.0;
      deep = k.0;
      declared = l.0;
      filter = m.0;
    }

-- a test that passes leaves what the others say
skips : (b : Bool) (k : FaultKind) (o : Option FaultKind) → b ≡ false → o ≡ None → cond b (Some k) o ≡ None
skips true k o e n = absurd (cc)
skips false k o e n = n

pub faultless_from : (code : Code) (w : World) (i : Instr) → IsClear code w i → fault_of code w i ≡ None
unfolding fault_of
faultless_from code w i c =
    skips (wrong_kind code (state_of w) i) WrongKind _ c.kind (
    skips (loads_free (state_of w) i) Unset _ c.set (
    skips (closed_area (state_of w) i) ClosedArea _ c.area (
    skips (empty_stack (state_of w) i) EmptyStack _ c.there (
    skips (stack_over code (state_of w) i) StackOver _ c.room (
    skips (bad_jump code w i) BadJump _ c.jump (
    skips (order_fails code.declared (state_of w).desk i) NoOrder _ c.order (
    skips (opens_twice (state_of w).desk i) OpenTwice _ c.once (
    skips (deep_call w i) DeepCall _ c.deep (
    skips (bad_field code (state_of w) i) BadField _ c.declared (
    skips (bad_filter code (state_of w) i) BadFilter _ c.filter refl))))))))))
