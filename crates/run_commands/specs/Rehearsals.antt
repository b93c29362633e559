-- Runs that save nothing, and what they would have saved.
use Rattle.std.specs.Prelude.{◌≡◌, ◌≤◌, ◌⊎◌, ℕ, List, Contains, map}
use Rattle.std.specs.List.{All}
use Rattle.code_items.specs.declared.declared.Filter.{Filter}
use Rattle.code_items.specs.declared.code.Code.{Code}
use Rattle.code_items.specs.declared.declared.Declared.{Declared}
use Rattle.file_access.specs.Holding.{Holds}
use Rattle.run_commands.specs.declared.job.Job.{Job}
use Rattle.run_commands.specs.declared.rehearsing.Compared.{Compared}
use Rattle.run_commands.specs.declared.rehearsing.Rehearsal.{Rehearsal}
use Rattle.run_commands.specs.Reports.{IsTold, MayLoad}
use Rattle.run_commands.specs.Runs.{IsLeft}
use Rattle.run_steps.specs.declared.ending.Outcome.{Outcome}
use Rattle.table_changes.specs.Stores.{AreChanges}
use Rattle.table_changes.specs.declared.stores.Changes.{Changes}
use Rattle.table_files.specs.Loading.{Loaded}
use Rattle.work_area.specs.Areas.{StoreState}

-- a run of the code over the tables that the files hold, that ended so, printed these rows, and left tables to which
-- this became of the loaded ones
pub record LeavesTables (holds : Holds) (job : Job) (code : Code) (outcome : Outcome) (rows : List ℕ)
    (changes : Changes) : Type 0 where
  pub store : StoreState
  pub loaded : Loaded holds code.declared.shape job.limit store
  pub tables : StoreState
  pub left : IsLeft code store job outcome rows tables
  pub changed : AreChanges code.declared.shape store tables changes

-- how many instructions the longest filter has; 0 if there is no filter
pub record IsLongestFilter (filters : List Filter) (length : ℕ) : Type 0 where
  pub most : All (λ (f : Filter). f.length ≤ length) filters
  pub reached : (length ≡ 0) ⊎ Contains (map (λ (f : Filter). f.length) filters) length

-- such a run as it is told, of a code with these declarations
pub record IsToldAs (declared : Declared) (done : Compared) (told : Rehearsal) : Type 0 where
  pub rows : told.rows.items ≡ done.rows.items
  pub ended : IsTold declared.shape done.outcome told.ended
  pub changes : told.changes ≡ done.changes
  pub tables : told.tables.items ≡ map (λ t. t.name) declared.shape.tables
  pub indexes : told.indexes.items ≡ map (λ x. x.name) declared.shape.indexes
  pub longest : IsLongestFilter declared.filters told.longest_filter

-- what is told is such a run, of a code that may run as the job says
pub record IsRehearsed (holds : Holds) (job : Job) (told : Rehearsal) (code : Code) : Type 0 where
  pub may : MayLoad job code
  pub outcome : Outcome
  pub leaves : LeavesTables holds job code outcome told.rows.items told.changes
  pub ended : IsTold code.declared.shape outcome told.ended
  pub tables : told.tables.items ≡ map (λ t. t.name) code.declared.shape.tables
  pub indexes : told.indexes.items ≡ map (λ x. x.name) code.declared.shape.indexes
  pub longest : IsLongestFilter code.declared.filters told.longest_filter
