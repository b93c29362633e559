-- What holds of the runs of an accepted code.
use Rattle.std.specs.Prelude.{◌≡◌, ◌≤◌, ℕ, Some, length}
use Rattle.shape.specs.declared.whole.Shape.{Shape}
use Rattle.work_area.specs.Areas.{IsWithinLimit}
use Rattle.work_area.specs.Shapes.{StoreHasShape}
use Rattle.code_items.specs.declared.code.Code.{Code}
use Rattle.run_steps.specs.declared.ending.Outcome.{Outcome}
use Rattle.run_steps.specs.Run.{step_of, after, spent, steps_made, IsNoFault, IsFault, Ran}
use Rattle.run_steps.specs.Safe.{IsSafe}
use Rattle.run_steps.specs.World.{World}
use Rattle.fit_laws.specs.Fits.{IsFitting}

pub record RunsWell (code : Code) : Type 0 where
  -- from a world that fits what the verifier knows no run meets a fault, and all later worlds fit it
  pub safe : (w : World) → IsFitting code w → IsSafe code w
  pub fits : (w : World) → IsFitting code w → (n : ℕ) (v : World) → after code w n ≡ Some v → IsFitting code v
  -- such a world is within the bounds of stack and calls
  pub stack : (w : World) → IsFitting code w → length w.values.stack ≤ code.declared.stack_bound
  pub returns : (w : World) → IsFitting code w → length w.returns ≤ 20
  -- from any world tables and indexes of any shape keep it
  pub keeps : (shape : Shape) (w : World) (n : ℕ) (v : World) → after code w n ≡ Some v
      → StoreHasShape shape w.env.store → StoreHasShape shape v.env.store
  -- from any world where no table has more records than its limit, none comes to have more
  pub within : (w : World) (limit : ℕ) → IsWithinLimit limit w.env.store → (n : ℕ) (v : World) → after code w n ≡ Some v
      → IsWithinLimit limit v.env.store
  -- from a world where no run meets a fault no step is one, and no run ends so
  pub steps : (w : World) → IsSafe code w → (n : ℕ) (v : World) → after code w n ≡ Some v → IsNoFault (step_of code v)
  pub end : (w : World) (budget : ℕ) (outcome : Outcome) (v : World) → IsSafe code w → Ran code w budget outcome v
      → ¬ IsFault outcome.end
  -- from any world steps cost at least one each, and a run makes no more than its budget pays
  pub few : (w : World) (n : ℕ) (v : World) → after code w n ≡ Some v → n ≤ spent code w n
  pub made : (w : World) (budget : ℕ) (outcome : Outcome) (v : World) (ran : Ran code w budget outcome v)
      → steps_made ran.count outcome.end ≤ budget
