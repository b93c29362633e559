-- Runs of accepted code in parts.
use Rattle.std.specs.Prelude.{◌≡◌, ◌+◌, ◌/◌, ◌&&◌, ℕ, if◌then◌else◌, nat_lt, min}
use Rattle.code_items.specs.declared.code.Code.{Code}
use Rattle.machine.specs.Twins.{BankState, AgreesWith, Twin}
use Rattle.run_steps.specs.declared.ending.End.TheVariants.{Spent}
use Rattle.run_steps.specs.declared.ending.Outcome.{Outcome}
use Rattle.run_steps.specs.Run.{Ran, IsFault}
use Rattle.run_steps.specs.Shapes.{StoreFits}
use Rattle.run_steps.specs.World.{World}

-- the checking machine's run from this world, within this budget, ends so, without a fault, where these banks stand;
-- their tables are as the code declares, and a run may go on from there
pub record RunsTo (code : Code) (from : World) (budget : ℕ) (outcome : Outcome) (b : BankState) : Type 0 where
  pub world : World
  pub ran : Ran code from budget outcome world
  pub no_fault : ¬ IsFault outcome.end
  pub agrees : AgreesWith b world
  pub declared : StoreFits code.declared b.env.store
  pub goes_on : Twin code world b

-- a run from this world stands here, behind steps of this cost: at its beginning, or where a part of it was spent
pub data IsAt (code : Code) (from : World) (steps : ℕ) (b : BankState) : Type 0 where
  Begun : steps ≡ 0 → Twin code from b → IsAt code from steps b
  Behind : (budget : ℕ) → RunsTo code from budget (record { end = Spent; steps = steps }) b → IsAt code from steps b

-- what the next part is to cost at most, by this one's and the nanoseconds that it took: twice as much behind less than
-- a quarter of a second, half as much behind more than a second
abbrev pub part_after : ℕ → ℕ → ℕ
part_after part nanos = if nat_lt nanos 250000000 then min (part + part) 18446744073709551615
    else (if nat_lt 1000000000 nanos && nat_lt 1 part then part / 2 else part)
