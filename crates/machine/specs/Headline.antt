-- What a run of accepted code without any test is: the checking machine's run, and more.
use Rattle.std.specs.Prelude.{◌≡◌, ◌≤◌, ℕ, Some, length}
use Rattle.shape.specs.declared.whole.Shape.{Shape}
use Rattle.work_area.specs.Areas.{IsWithinLimit, NoOpenIndexIsStale}
use Rattle.work_area.specs.Shapes.{StoreHasShape}
use Rattle.code_items.specs.declared.code.Code.{Code}
use Rattle.run_steps.specs.declared.ending.Outcome.{Outcome}
use Rattle.run_steps.specs.World.{World}
use Rattle.run_steps.specs.Run.{after, step_of, steps_made, IsNoFault, IsFault, Ran}
use Rattle.run_steps.specs.Shapes.{StoreFits}
use Rattle.fit_laws.specs.Fits.{IsFitting}
use Rattle.machine.specs.Twins.{BankState, AgreesWith, Twin}

-- of a run from a world, within a budget, that ended so and left these banks
pub record Headline (code : Code) (from : World) (budget : ℕ) (outcome : Outcome) (b : BankState) : Type 0 where
  pub world : World
  -- the checking machine's steps lead to this world, cost what the run cost, and may end there so: finished, spent,
  -- with a full table, or short of memory
  pub takes_its_steps : Ran code from budget outcome world
  -- same place, screen, rows, stale marks, areas, pointers, settings, lines that are left, and values
  pub agrees : AgreesWith b world
  -- no instruction that the run carries out has a fault, nor has the next one
  pub meets_no_fault : (n : ℕ) (v : World) → after code from n ≡ Some v → IsNoFault (step_of code v)
  pub ends_without_fault : ¬ IsFault outcome.end
  -- at each of them what the verifier knows of its place is true, and each procedure that runs was called from where it
  -- returns to
  pub as_known : (n : ℕ) (v : World) → after code from n ≡ Some v → IsFitting code v
  -- after each step
  pub within_the_stack : (n : ℕ) (v : World) → after code from n ≡ Some v
      → length v.values.stack ≤ code.declared.stack_bound
  pub few_calls : (n : ℕ) (v : World) → after code from n ≡ Some v → length v.returns ≤ 20
  -- what the steps cost together, and so how many they are, the closing one counted
  pub within_the_budget : outcome.steps ≤ budget
  pub few_steps : steps_made takes_its_steps.count outcome.end ≤ budget
  -- tables keep their fields, and the declared indexes their keys, whatever shape they have
  pub keeps_tables_and_indexes : (shape : Shape) → StoreHasShape shape from.env.store → StoreHasShape shape b.env.store
  -- after each step the limit of records is what it was, and no table has more
  pub within_the_limit : (n : ℕ) (v : World) → after code from n ≡ Some v
      → IsWithinLimit from.env.store.limit v.env.store
  -- and `Banks::open_keys` lends the list of an open index: its table's keys in order. (This holds after each step,
  -- since a run with a smaller budget ends there.)
  pub no_open_index_is_stale : NoOpenIndexIsStale b.env.store
  -- tables and areas are still as the code declares, and a run may go on from here
  pub as_declared : StoreFits code.declared b.env.store
  pub goes_on : Twin code world b
