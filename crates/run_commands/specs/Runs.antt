-- Runs of a code over loaded tables.
use Rattle.std.specs.Prelude.{◌≡◌, ℕ, List}
use Rattle.code_items.specs.declared.code.Code.{Code}
use Rattle.run_commands.specs.declared.job.Job.{Job}
use Rattle.run_steps.specs.declared.ending.Outcome.{Outcome}
use Rattle.run_steps.specs.Opening.{opening}
use Rattle.run_steps.specs.Run.{Ran, IsFault}
use Rattle.run_steps.specs.Shapes.{StoreFits}
use Rattle.run_steps.specs.World.{World}
use Rattle.screen_lines.specs.State.{sent}
use Rattle.text_lines.specs.Lines.{short_lines}
use Rattle.work_area.specs.Areas.{StoreState}

-- the world from which a job's run of the code begins, over these tables
abbrev pub begun : Code → StoreState → Job → World
begun code store job = opening code store (short_lines job.input.now) job.day

-- the checking machine's steps lead from there to an end like this, and the rows are what its last world sends
pub record IsRun (code : Code) (store : StoreState) (job : Job) (outcome : Outcome) (rows : List ℕ) : Type 0 where
  pub last : World
  pub ran : Ran code (begun code store job) job.budget outcome last
  pub rows_are : rows ≡ sent last.env.screen

-- the same; these tables are those of its last world, and hold what the code declares
pub record IsLeft (code : Code) (store : StoreState) (job : Job) (outcome : Outcome) (rows : List ℕ)
    (tables : StoreState) : Type 0 where
  pub run : IsRun code store job outcome rows
  pub tables_are : tables ≡ run.last.env.store
  pub fits : StoreFits code.declared tables

-- the same, without a fault; the tables of its last world are these, and hold what the code declares
pub record IsSoundRun (code : Code) (store : StoreState) (job : Job) (outcome : Outcome) (rows : List ℕ)
    (tables : StoreState) : Type 0 where
  pub run : IsRun code store job outcome rows
  pub no_fault : ¬ IsFault outcome.end
  pub tables_are : tables ≡ run.last.env.store
  pub fits : StoreFits code.declared tables
