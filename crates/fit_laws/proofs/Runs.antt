-- A run from a world that fits stays among worlds that fit, and so meets no fault.
use Rattle.std.proofs.Common.{◌≡◌, ◌≤◌, ℕ, zero, suc, false, Option, Some, None, length, refl, sym, subst, arith}
use Rattle.std.specs.Prelude.{option_and_then}
use Rattle.std.proofs.lemmas.List.{length-map}
use Rattle.std.proofs.lemmas.Option.{same_Some, none-some}
use Rattle.xvalue.specs.Kinds.{kind_of}
use Rattle.code_items.specs.declared.code.Code.{Code}
use Rattle.code_rules.specs.Places.{instr_at}
use Rattle.run_steps.specs.World.{World, state_of}
use Rattle.run_steps.specs.Control.{finishes, effect}
use Rattle.run_steps.specs.Run.{step_of, next_world, after}
use Rattle.run_steps.specs.Safe.{IsSafeHere}
use Rattle.run_steps.proofs.Runs.{led}
use Rattle.run_laws.proofs.Known.{known_of}
use Rattle.fit_laws.specs.Fits.{IsFitting}

-- a world that fits can go on, and a step from it leads to one that fits
pub record Goes (code : Code) : Type 0 where
  pub safe : (w : World) → IsFitting code w → IsSafeHere code w
  pub on : (w : World) → IsFitting code w → finishes w (instr_at code w.place) ≡ false
      → IsFitting code (effect code w (instr_at code w.place))

step_fits : (code : Code) → Goes code → (w v : World) → IsFitting code w → next_world (step_of code w) ≡ Some v
    → IsFitting code v
step_fits code g w v f e = let l = led code w v e in subst (IsFitting code) (sym l.there) (g.on w f l.on)

then_fits : (code : Code) → Goes code → (x : Option World) (v : World) → ((w : World) → x ≡ Some w → IsFitting code w)
    → option_and_then (λ w. next_world (step_of code w)) x ≡ Some v → IsFitting code v
then_fits code g None v h e = absurd (none-some v e)
then_fits code g (Some w) v h e = step_fits code g w v (h w refl) e

pub run_fits : (code : Code) → Goes code → (w : World) → IsFitting code w → (n : ℕ) (v : World)
    → after code w n ≡ Some v → IsFitting code v
run_fits code g w f zero v e = subst (IsFitting code) (same_Some w v e) f
run_fits code g w f (suc n) v e = then_fits code g (after code w n) v (λ u at. run_fits code g w f n u at) e

-- ---- bounds

pub stack_within : (code : Code) (w : World) → IsFitting code w → length w.values.stack ≤ code.declared.stack_bound
stack_within code w f =
    omega (arith, (known_of code.declared (state_of w) f.shape.state).stack, length-map w.values.stack kind_of)
