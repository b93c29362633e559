-- Runs whose lines an operator types, from files to files.
use Rattle.std.specs.Prelude.{◌≡◌, ◌≤◌, ℕ, true, List, [], length, ⊤, Option, Result, Ok, Err}
use Rattle.code_items.specs.declared.code.Code.{Code}
use Rattle.file_access.specs.Holding.{Holds, SameFiles}
use Rattle.operating.specs.Answers.{BrokeOff, FailedOrNot}
use Rattle.operating.specs.declared.operator.OperatorFailed.{OperatorFailed}
use Rattle.run_commands.specs.declared.ending.Ended.{Ended}
use Rattle.run_commands.specs.declared.job.Job.{Job}
use Rattle.run_commands.specs.declared.conversation.OperateRefusal.{OperateRefusal}
use Rattle.run_commands.specs.declared.conversation.OperateRefusal.TheVariants.{Run, Broke, Handed}
use Rattle.run_commands.specs.declared.refusal.RunRefusal.{RunRefusal}
use Rattle.run_commands.specs.Reports.{IsRefused}
use Rattle.run_commands.specs.Runs.{IsSoundRun}
use Rattle.run_steps.specs.declared.ending.Outcome.{Outcome}
use Rattle.text_lines.specs.Lines.{is_ended}
use Rattle.work_area.specs.Areas.{StoreState}

-- the same job, whose input is this text
pub record IsWith (job : Job) (typed : List ℕ) (whole : Job) : Type 0 where
  pub input : whole.input.now ≡ typed
  pub name : whole.name.now ≡ job.name.now
  pub checked : whole.checked ≡ job.checked
  pub budget : whole.budget ≡ job.budget
  pub limit : whole.limit ≡ job.limit
  pub day : whole.day ≡ job.day

-- a run that was carried out is the job's run over the lines of this text
abbrev pub SoundOver : Code → StoreState → Job → List ℕ → Outcome → List ℕ → StoreState → Type 0
SoundOver code store job typed outcome rows tables =
    (whole : Job) → IsWith job typed whole → IsSoundRun code store whole outcome rows tables

-- what is refused of a run is refused of the job's run; where the conversation broke off, nothing is printed or saved
abbrev pub OperationRefused : Holds → Holds → Job → Type 0 → OperateRefusal → List ℕ → Type 0
OperationRefused before after job broke (Run refusal) rows = IsRefused before after job broke refusal rows
OperationRefused before after job broke (Broke why) rows = SameFiles before after × (rows ≡ [])
OperationRefused before after job broke Handed rows = SameFiles before after × (rows ≡ [])

-- a refusal of the run, if it is one, where the lines that the journal held are a beginning
abbrev pub IfOfRun : (RunRefusal → Type 0) → OperateRefusal → Type 0
IfOfRun says (Run refusal) = says refusal
IfOfRun says (Broke why) = ⊤
IfOfRun says Handed = ⊥

-- no conversation begins with these bytes: they aren't whole lines, or are more than so many
abbrev pub IsNoBeginning : List ℕ → ℕ → Type 0
IsNoBeginning handed most = ¬ ((is_ended handed ≡ true) × (length handed ≤ most))

-- a refusal of the run, if it is one; that of the lines which the journal held comes with such lines alone
abbrev pub IfOfTalk : (RunRefusal → Type 0) → List ℕ → ℕ → OperateRefusal → Type 0
IfOfTalk says handed most (Run refusal) = says refusal
IfOfTalk says handed most (Broke why) = ⊤
IfOfTalk says handed most Handed = IsNoBeginning handed most

-- the same result, its refusal as that of a run
abbrev pub SameResult : Result Ended RunRefusal → Result Ended OperateRefusal → Type 0
SameResult (Ok ended) told = told ≡ Ok ended
SameResult (Err refusal) told = told ≡ Err (Run refusal)

-- the count of the journal's failures before and after a refused conversation: it rose, or is at its greatest, where
-- the journal is why, and else it stays
abbrev pub OperationBroke : ℕ → ℕ → OperateRefusal → Type 0
OperationBroke before after (Run refusal) = after ≡ before
OperationBroke before after (Broke why) = BrokeOff before after why
OperationBroke before after Handed = after ≡ before

-- why the operator failed last, before and after a refused conversation: the failure is why it broke off, or it stays
abbrev pub RefusalFails : Option OperatorFailed → Option OperatorFailed → OperateRefusal → Type 0
RefusalFails before after (Run refusal) = after ≡ before
RefusalFails before after (Broke why) = FailedOrNot before after why
RefusalFails before after Handed = after ≡ before

-- the same of any conversation: where it isn't refused, the operator didn't fail
abbrev pub OperationFails : {A : Type 0} → Result A OperateRefusal → Option OperatorFailed → Option OperatorFailed
    → Type 0
OperationFails (Ok done) before after = after ≡ before
OperationFails (Err refusal) before after = RefusalFails before after refusal
