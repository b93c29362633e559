-- A run stays among worlds of the code's shape.
use Rattle.std.proofs.Common.{◌≡◌, ◌<◌, ℕ, zero, suc, true, false, Option, Some, None, length, refl, sym, subst}
use Rattle.std.proofs.Common.{arith}
use Rattle.std.specs.Prelude.{option_and_then}
use Rattle.std.proofs.lemmas.Option.{same_Some, none-some}
use Rattle.work_area.specs.Areas.{AreApart}
use Rattle.code_items.specs.declared.code.Code.{Code}
use Rattle.code_items.specs.declared.instr.Instr.{Instr}
use Rattle.code_items.specs.declared.instr.Instr.TheVariants.{Flow}
use Rattle.code_items.specs.declared.instr.FlowInstr.TheVariants.{End}
use Rattle.code_items.specs.Facts.{Facts}
use Rattle.code_items.specs.Instrs.{is_instr}
use Rattle.code_rules.specs.Places.{instr_at}
use Rattle.run_steps.specs.World.{World}
use Rattle.run_steps.specs.Control.{effect, finishes}
use Rattle.run_steps.specs.Faults.{fault_of, IsClear}
use Rattle.run_steps.specs.Run.{step_of, next_world, after}
use Rattle.run_steps.specs.Shapes.{HasShape}
use Rattle.run_steps.proofs.Runs.{led}
use Rattle.run_laws.proofs.Tests.{all_within}

abbrev pub Stays : Code → World → Type 0
Stays code w = HasShape code w × AreApart w.env.store.areas

-- what the laws say of a step
abbrev Clear : Code → Type 0
Clear code = (w : World) (i : Instr) → fault_of code w i ≡ None → IsClear code w i

abbrev Keeps : Code → Type 0
Keeps code = (w : World) (i : Instr) → HasShape code w → AreApart w.env.store.areas
    → is_instr code.declared.version i ≡ true → IsClear code w i → finishes w i ≡ false → Stays code (effect code w i)

step_stays : (code : Code) → Clear code → Keeps code → Facts code → (w v : World) → Stays code w
    → next_world (step_of code w) ≡ Some v → Stays code v
step_stays code clear keeps f w v s e =
    let i = instr_at code w.place in
    let l = led code w v e in
    let within : w.place < length code.instructions = omega (arith, s.0.place, f.places) in
    let is = all_within (is_instr code.declared.version) code.instructions w.place (Flow End) f.legal within in
    subst (Stays code) (sym l.there) (keeps w i s.0 s.1 is (clear w i l.sound) l.on)

then_stays : (code : Code) → Clear code → Keeps code → Facts code → (x : Option World) (v : World)
    → ((w : World) → x ≡ Some w → Stays code w) → option_and_then (λ w. next_world (step_of code w)) x ≡ Some v
    → Stays code v
then_stays code clear keeps f None v h e = absurd (none-some v e)
then_stays code clear keeps f (Some w) v h e = step_stays code clear keeps f w v (h w refl) e

pub run_stays : (code : Code) → Clear code → Keeps code → Facts code → (w : World) → Stays code w → (n : ℕ)
    (v : World) → after code w n ≡ Some v → Stays code v
run_stays code clear keeps f w s zero v e = subst (Stays code) (same_Some w v e) s
run_stays code clear keeps f w s (suc n) v e =
    then_stays code clear keeps f (after code w n) v (λ u at. run_stays code clear keeps f w s n u at) e
