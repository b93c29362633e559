-- What a run reports, and what the files hold then.
use Rattle.std.specs.Prelude.{◌≡◌, ℕ, List, [], false, Some, length, MatchBool, ◌⊎◌, ⊤}
use Rattle.code_items.specs.declared.code.Code.{Code}
use Rattle.code_rules.specs.Rules.{Accepted, FirstRefusal}
use Rattle.dbf_file.specs.declared.stamp.Stamp.{Stamp}
use Rattle.dbf_file.specs.Values.{stamp_of}
use Rattle.file_access.specs.Holding.{Holds, SameFiles}
use Rattle.file_commands.specs.Refusals.{CodeFileFault}
use Rattle.file_commands.specs.Reports.{HasCode}
use Rattle.run_commands.specs.declared.ending.Ended.{Ended}
use Rattle.run_commands.specs.declared.job.Job.{Job}
use Rattle.run_commands.specs.declared.refusal.RunRefusal.{RunRefusal}
use Rattle.run_commands.specs.declared.refusal.RunRefusal.TheVariants.{File, Rule, Disk, Tables, Memory}
use Rattle.run_commands.specs.Endings.{TellsHow}
use Rattle.run_commands.specs.Runs.{IsRun, IsSoundRun}
use Rattle.run_steps.specs.declared.ending.Outcome.{Outcome}
use Rattle.shape.specs.declared.whole.Shape.{Shape}
use Rattle.table_files.specs.declared.refusal.FilesRefusal.{FilesRefusal}
use Rattle.table_files.specs.Loading.{Loaded}
use Rattle.table_files.specs.Names.{files_of}
use Rattle.table_files.specs.Refusals.{LoadRefused}
use Rattle.table_files.specs.Saving.{AreSaved, EndedAt}
use Rattle.work_area.specs.Areas.{StoreState}

-- ---- runs that end

-- the end is told with its cost
pub record IsTold (shape : Shape) (outcome : Outcome) (ended : Ended) : Type 0 where
  pub how : TellsHow shape outcome.end ended.how
  pub steps : ended.steps ≡ outcome.steps

-- a run of the code, on the checking machine, over the tables that the files hold, that ended so and printed these
-- rows
pub record IsTested (holds : Holds) (job : Job) (code : Code) (ended : Ended) (rows : List ℕ) : Type 0 where
  pub store : StoreState
  pub loaded : Loaded holds code.declared.shape job.limit store
  pub outcome : Outcome
  pub run : IsRun code store job outcome rows
  pub told : IsTold code.declared.shape outcome ended

-- a run of the code, which is accepted, over the tables that the files hold: it met no fault, printed these rows, and
-- left these tables, to be stamped with the day of the run
pub record IsAccepted (holds : Holds) (job : Job) (code : Code) (outcome : Outcome) (rows : List ℕ)
    (tables : StoreState) (stamp : Stamp) : Type 0 where
  pub accepted : Accepted code
  pub store : StoreState
  pub loaded : Loaded holds code.declared.shape job.limit store
  pub run : IsSoundRun code store job outcome rows tables
  pub stamped : stamp_of job.day ≡ Some stamp

-- such a run that ended so, and all of whose tables, and indexes that aren't stale, are saved; no other file changes
pub record IsSavedRun (before after : Holds) (job : Job) (code : Code) (ended : Ended) (rows : List ℕ) : Type 0 where
  pub outcome : Outcome
  pub tables : StoreState
  pub stamp : Stamp
  pub run : IsAccepted before job code outcome rows tables stamp
  pub told : IsTold code.declared.shape outcome ended
  pub saved : AreSaved code.declared.shape tables stamp (length (files_of code.declared.shape)) before after

-- such a run whose saving stopped: the first declared files are new, and all others as they were
pub record IsStopped (before after : Holds) (broke : Type 0) (job : Job) (code : Code) (refusal : FilesRefusal)
    (rows : List ℕ) : Type 0 where
  pub outcome : Outcome
  pub tables : StoreState
  pub stamp : Stamp
  pub run : IsAccepted before job code outcome rows tables stamp
  pub stopped : EndedAt code.declared.shape tables stamp before after broke refusal

-- a run that is tested changes no file
abbrev pub CodeRan : Holds → Holds → Job → Ended → List ℕ → Code → Type 0
CodeRan before after job ended rows code = MatchBool job.checked
    (IsTested before job code ended rows × SameFiles before after)
    (IsSavedRun before after job code ended rows)

abbrev pub HasRun : Holds → Holds → Job → Ended → List ℕ → Type 0
HasRun before after job ended rows = HasCode (before job.name.now) (CodeRan before after job ended rows)

-- ---- refusals

-- a run that isn't tested loads tables for accepted code alone
abbrev pub MayLoad : Job → Code → Type 0
MayLoad job code = MatchBool job.checked ⊤ (Accepted code)

-- why there is no run: the code's file has a fault; the code isn't accepted, and is to be; the device failed; what the
-- code declares isn't loaded, though the code may run; memory
abbrev pub RefusedBefore : Holds → Job → Type 0 → RunRefusal → Type 0
RefusedBefore holds job broke (File fault) = CodeFileFault (holds job.name.now) fault
RefusedBefore holds job broke (Rule refused) =
    (job.checked ≡ false) × HasCode (holds job.name.now) (λ code. FirstRefusal code refused.rule refused.at)
RefusedBefore holds job broke Disk = broke
RefusedBefore holds job broke (Tables refusal) =
    HasCode (holds job.name.now)
    (λ code. MayLoad job code × LoadRefused holds code.declared.shape job.limit broke refusal)
RefusedBefore holds job broke Memory = ⊤

-- there was no run, no rows are printed, and no file changes
pub record HasNotRun (before after : Holds) (job : Job) (broke : Type 0) (refusal : RunRefusal)
    (rows : List ℕ) : Type 0 where
  pub why : RefusedBefore before job broke refusal
  pub no_rows : rows ≡ []
  pub kept : SameFiles before after

-- there was one, and its tables aren't all saved
abbrev pub SavingStopped : Holds → Holds → Job → Type 0 → RunRefusal → List ℕ → Type 0
SavingStopped before after job broke (Tables refusal) rows =
    (job.checked ≡ false) × HasCode (before job.name.now) (λ code. IsStopped before after broke job code refusal rows)
SavingStopped before after job broke _ rows = ⊥

abbrev pub IsRefused : Holds → Holds → Job → Type 0 → RunRefusal → List ℕ → Type 0
IsRefused before after job broke refusal rows =
    HasNotRun before after job broke refusal rows ⊎ SavingStopped before after job broke refusal rows
