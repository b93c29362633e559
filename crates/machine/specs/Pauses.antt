-- How far a run of accepted code goes on until a line of the operator is wanted.
use Rattle.std.specs.Prelude.{◌≡◌, ◌<◌, ◌≤◌, ◌-◌, ℕ, suc, List, Bool, true, Some, length, slice_get}
use Rattle.shape.specs.declared.whole.Shape.{Shape}
use Rattle.work_area.specs.Areas.{IsWithinLimit, NoOpenIndexIsStale}
use Rattle.work_area.specs.Shapes.{StoreHasShape}
use Rattle.code_items.specs.declared.code.Code.{Code}
use Rattle.run_steps.specs.declared.pausing.Leg.{Leg}
use Rattle.run_steps.specs.declared.pausing.Leg.TheVariants.{Ended, Waits, Marked}
use Rattle.run_steps.specs.Pausing.{Came, FindsLines, PassesNoMark, is_dry}
use Rattle.run_steps.specs.Run.{after, step_of, cost_of, IsNoFault}
use Rattle.run_steps.specs.Shapes.{StoreFits}
use Rattle.run_steps.specs.World.{World}
use Rattle.fit_laws.specs.Fits.{IsFitting}
use Rattle.machine.specs.Headline.{Headline}
use Rattle.machine.specs.Twins.{BankState, AgreesWith, Twin}

-- of a run from a world, within a budget, that pauses behind steps of this cost and left these banks: what stands at an
-- end stands here too, but for the end
pub record PausesAt (code : Code) (from : World) (budget steps : ℕ) (b : BankState) : Type 0 where
  pub world : World
  -- the checking machine's steps lead to this world and cost what the run cost, and none took a line where none was
  -- left
  pub takes_its_steps : Came code from steps world
  pub agrees : AgreesWith b world
  pub meets_no_fault : (n : ℕ) (v : World) → after code from n ≡ Some v → IsNoFault (step_of code v)
  pub as_known : (n : ℕ) (v : World) → after code from n ≡ Some v → IsFitting code v
  pub within_the_stack : (n : ℕ) (v : World) → after code from n ≡ Some v
      → length v.values.stack ≤ code.declared.stack_bound
  pub few_calls : (n : ℕ) (v : World) → after code from n ≡ Some v → length v.returns ≤ 20
  pub within_the_budget : steps ≤ budget
  pub few_steps : takes_its_steps.count ≤ budget
  pub keeps_tables_and_indexes : (shape : Shape) → StoreHasShape shape from.env.store → StoreHasShape shape b.env.store
  pub within_the_limit : (n : ℕ) (v : World) → after code from n ≡ Some v
      → IsWithinLimit from.env.store.limit v.env.store
  pub no_open_index_is_stale : NoOpenIndexIsStale b.env.store
  pub as_declared : StoreFits code.declared b.env.store
  pub goes_on : Twin code world b

-- It ended, and found each line that it took; or it pauses where the next instruction takes a line, none is left, and
-- what is left of the budget pays for it; or at a marked place, behind at least one step. No marked place of an
-- instruction on the screen was passed over, but that where it began. Where it ended or wants a line it isn't at one
-- either.
abbrev pub GoesTo : Code → World → ℕ → List Bool → Leg → BankState → Type 0
GoesTo code from budget marks (Ended outcome) b =
    (h : Headline code from budget outcome b)
    × (FindsLines code from h.takes_its_steps.count × PassesNoMark code marks from (suc h.takes_its_steps.count))
GoesTo code from budget marks (Waits steps) b =
    (p : PausesAt code from budget steps b)
    × ((is_dry code p.world ≡ true) × (cost_of code p.world ≤ budget - steps)
    × PassesNoMark code marks from (suc p.takes_its_steps.count))
GoesTo code from budget marks (Marked steps) b =
    (p : PausesAt code from budget steps b)
    × ((slice_get marks p.world.place ≡ Some true) × (0 < steps)
    × PassesNoMark code marks from p.takes_its_steps.count)
