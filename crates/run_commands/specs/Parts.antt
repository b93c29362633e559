-- What the parts of a run say to each other: of one code, without the file that it stands in.
use Rattle.std.specs.Prelude.{◌≡◌, ℕ, List, Some, false, length, ⊤}
use Rattle.code_items.specs.declared.code.Code.{Code}
use Rattle.code_rules.specs.Rules.{FirstRefusal}
use Rattle.dbf_file.specs.declared.stamp.Stamp.{Stamp}
use Rattle.dbf_file.specs.Values.{stamp_of}
use Rattle.file_access.specs.Holding.{Holds}
use Rattle.file_commands.specs.declared.refusal.Refusal.{Refusal}
use Rattle.file_commands.specs.declared.refusal.Refusal.TheVariants.{Refused as FileRefused, Disk as FileDisk}
use Rattle.file_commands.specs.declared.refusal.Refusal.TheVariants.{Memory as FileMemory}
use Rattle.run_commands.specs.declared.job.Job.{Job}
use Rattle.run_commands.specs.declared.refusal.RunRefusal.{RunRefusal}
use Rattle.run_commands.specs.declared.refusal.RunRefusal.TheVariants.{File, Rule, Disk, Tables, Memory}
use Rattle.run_commands.specs.Reports.{IsStopped, MayLoad}
use Rattle.shape.specs.declared.whole.Shape.{Shape}
use Rattle.table_files.specs.declared.refusal.FilesRefusal.{FilesRefusal}
use Rattle.table_files.specs.Names.{files_of}
use Rattle.table_files.specs.Refusals.{LoadRefused}
use Rattle.table_files.specs.Saving.{AreSaved, EndedAt}
use Rattle.work_area.specs.Areas.{StoreState}

-- the refusal of the code's file, without its name
abbrev pub IsOfCode : Refusal → RunRefusal → Type 0
IsOfCode (FileRefused name fault) told = told ≡ File fault
IsOfCode (FileDisk name) told = told ≡ Disk
IsOfCode FileMemory told = told ≡ Memory

-- the verifier's refusal
abbrev pub IsOfRule : Code → RunRefusal → Type 0
IsOfRule code (File fault) = ⊥
IsOfRule code (Rule refused) = FirstRefusal code refused.rule refused.at
IsOfRule code Disk = ⊥
IsOfRule code (Tables refusal) = ⊥
IsOfRule code Memory = ⊤

-- that of loading
abbrev pub IsOfTables : Holds → Job → Code → Type 0 → RunRefusal → Type 0
IsOfTables holds job code broke (File fault) = ⊥
IsOfTables holds job code broke (Rule refused) = ⊥
IsOfTables holds job code broke Disk = ⊥
IsOfTables holds job code broke (Tables refusal) = LoadRefused holds code.declared.shape job.limit broke refusal
IsOfTables holds job code broke Memory = ⊤

-- all of a code's refusals
abbrev pub CodeRefused : Holds → Job → Code → Type 0 → RunRefusal → Type 0
CodeRefused holds job code broke (File fault) = ⊥
CodeRefused holds job code broke (Rule refused) = (job.checked ≡ false) × FirstRefusal code refused.rule refused.at
CodeRefused holds job code broke Disk = ⊥
CodeRefused holds job code broke (Tables refusal) =
    MayLoad job code × LoadRefused holds code.declared.shape job.limit broke refusal
CodeRefused holds job code broke Memory = ⊤

-- the tables are saved, stamped with the job's day
pub record SavedAll (before after : Holds) (job : Job) (shape : Shape) (tables : StoreState) : Type 0 where
  pub stamp : Stamp
  pub stamped : stamp_of job.day ≡ Some stamp
  pub saved : AreSaved shape tables stamp (length (files_of shape)) before after

-- saving them stopped
pub record SaveBroke (before after : Holds) (broke : Type 0) (job : Job) (shape : Shape) (tables : StoreState)
    (refusal : FilesRefusal) : Type 0 where
  pub stamp : Stamp
  pub stamped : stamp_of job.day ≡ Some stamp
  pub stopped : EndedAt shape tables stamp before after broke refusal

abbrev pub SavedSome : Holds → Holds → Type 0 → Job → Shape → StoreState → RunRefusal → Type 0
SavedSome before after broke job shape tables (Tables refusal) =
    SaveBroke before after broke job shape tables refusal
SavedSome before after broke job shape tables _ = ⊥

abbrev pub Stopped : Holds → Holds → Type 0 → Job → Code → List ℕ → RunRefusal → Type 0
Stopped before after broke job code rows (Tables refusal) = IsStopped before after broke job code refusal rows
Stopped before after broke job code rows _ = ⊥

abbrev pub CodeStopped : Holds → Holds → Type 0 → Job → Code → List ℕ → RunRefusal → Type 0
CodeStopped before after broke job code rows refusal =
    (job.checked ≡ false) × Stopped before after broke job code rows refusal
