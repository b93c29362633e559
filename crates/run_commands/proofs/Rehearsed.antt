-- What the parts of a rehearsal say to each other, put together.
use Rattle.std.proofs.Common.{◌≡◌, ◌≤◌, ◌∙◌, ap, subst, sym, true, false, ℕ, List, map, IfErr}
use Rattle.std.specs.Prelude.{Result, Ok, Err, IfOk, MatchBool, ⊤}
use Rattle.code_items.specs.declared.code.Code.{Code}
use Rattle.code_rules.specs.Rules.{Accepted}
use Rattle.file_access.specs.Holding.{Holds, SameFiles, Rose}
use Rattle.file_commands.specs.Reports.{IsCodeFile, HasCode}
use Rattle.run_commands.specs.declared.job.Job.{Job}
use Rattle.run_commands.specs.declared.refusal.RunRefusal.{RunRefusal}
use Rattle.run_commands.specs.declared.refusal.RunRefusal.TheVariants.{File, Rule, Disk, Tables, Memory}
use Rattle.run_commands.specs.declared.rehearsing.Compared.{Compared}
use Rattle.run_commands.specs.declared.machines.Run.{Run}
use Rattle.run_commands.specs.declared.rehearsing.Rehearsal.{Rehearsal}
use Rattle.run_commands.specs.Parts.{IsOfTables, CodeRefused}
use Rattle.run_commands.specs.Rehearsals.{LeavesTables, IsLongestFilter, IsRehearsed, IsToldAs}
use Rattle.run_commands.specs.Reports.{MayLoad, IsTold}
use Rattle.run_commands.proofs.Ran.{left_soundly}
use Rattle.run_commands.proofs.Same.{loaded_same}
use Rattle.run_commands.specs.Runs.{IsSoundRun}
use Rattle.shape.specs.declared.indexes.IndexShape.{IndexShape}
use Rattle.shape.specs.declared.tables.TableShape.{TableShape}
use Rattle.table_changes.specs.Stores.{AreChanges}
use Rattle.table_files.specs.Loading.{Loaded}
use Rattle.work_area.specs.Areas.{StoreState}
use Rattle.run_steps.specs.declared.ending.Outcome.{Outcome}
use Rattle.table_changes.specs.declared.stores.Changes.{Changes}

leaves_same : (a b : Holds) → SameFiles a b
    → (job : Job) (code : Code) (outcome : Outcome) (rows : List ℕ) (changes : Changes)
    → LeavesTables b job code outcome rows changes → LeavesTables a job code outcome rows changes
leaves_same a b same job code outcome rows changes h = record {
  store = h.store;
  loaded = loaded_same a b same code.declared.shape job.limit h.store h.loaded;
  tables = h.tables;
  left = h.left;
  changed = h.changed;
}

rehearsed_same : (a b : Holds) → SameFiles a b → (job : Job) (told : Rehearsal) (code : Code)
    → IsRehearsed b job told code → IsRehearsed a job told code
rehearsed_same a b same job told code h = record {
  may = h.may;
  outcome = h.outcome;
  leaves = leaves_same a b same job code h.outcome told.rows.items told.changes h.leaves;
  ended = h.ended;
  tables = h.tables;
  indexes = h.indexes;
  longest = h.longest;
}

pub rehearsed : (a b : Holds) → SameFiles a b → (job : Job) (code : Code) → IsCodeFile (a job.name.now) code
    → (result : Result Rehearsal RunRefusal)
    → IfOk result (λ told. IsRehearsed b job told code)
    → IfOk result (λ told. HasCode (a job.name.now) (IsRehearsed a job told))
rehearsed a b same job code file (Ok told) h = record {
  code = code;
  file = file;
  fits = rehearsed_same a b same job told code h;
}
rehearsed a b same job code file (Err refusal) h = h

-- a run of accepted code, as it was lent
pub leaves_of : (a : Holds) (job : Job) (code seen : Code) (outcome : Outcome) (rows : List ℕ)
    (store tables shown : StoreState) (changes : Changes) (limit : ℕ) → seen ≡ code → limit ≡ job.limit
    → Loaded a seen.declared.shape limit store → IsSoundRun code store job outcome rows tables → shown ≡ tables
    → AreChanges seen.declared.shape store shown changes → LeavesTables a job code outcome rows changes
leaves_of a job code seen outcome rows store tables shown changes limit lent limited loaded run same changed = record {
  store = store;
  loaded =
      subst (λ n. Loaded a code.declared.shape n store) limited
      (subst (λ (s : Code). Loaded a s.declared.shape limit store) lent loaded);
  tables = tables;
  left = left_soundly code store job outcome rows tables run;
  changed =
      subst (λ t. AreChanges code.declared.shape store t changes) same
      (subst (λ (s : Code). AreChanges s.declared.shape store shown changes) lent changed);
}

-- the same, as it is told with what became of its tables
pub leaves_told : {E : Type 0} (a : Holds) (job : Job) (code seen : Code) (done : Compared) (run from : Run)
    (store tables shown : StoreState) (found : Result Changes E) (limit : ℕ) → seen ≡ code → limit ≡ job.limit
    → Loaded a seen.declared.shape limit store → IsSoundRun code store job from.outcome from.rows.items tables
    → run ≡ from → shown ≡ tables → IfOk found (AreChanges seen.declared.shape store shown)
    → (found ≡ Ok done.changes) × (done.outcome ≡ run.outcome) × (done.rows ≡ run.rows)
    → LeavesTables a job code done.outcome done.rows.items done.changes
leaves_told a job code seen done run from store tables shown found limit lent limited loaded sound alone same changed
    told =
    let sure = subst (λ r. IfOk r (AreChanges seen.declared.shape store shown)) told.0 changed in
    let o : from.outcome ≡ done.outcome = sym (told.1 ∙ ap (λ (r : Run). r.outcome) alone) in
    let r : from.rows.items ≡ done.rows.items = sym (ap (λ v. v.items) told.2 ∙ ap (λ (r : Run). r.rows.items) alone) in
    subst (λ (rows : List ℕ). LeavesTables a job code done.outcome rows done.changes) r
    (subst (λ (outcome : Outcome). LeavesTables a job code outcome from.rows.items done.changes) o
    (leaves_of a job code seen from.outcome from.rows.items store tables shown done.changes limit lent limited loaded
    sound same sure))

-- ---- what may run

pub may_tested : (job : Job) (code : Code) → job.checked ≡ true → MayLoad job code
may_tested job code tests = subst (λ b. MatchBool b ⊤ (Accepted code)) (sym tests) tt

pub may_accepted : (job : Job) (code seen : Code) → job.checked ≡ false → seen ≡ code → Accepted seen → MayLoad job code
may_accepted job code seen tests lent accepted =
    subst (λ b. MatchBool b ⊤ (Accepted code)) (sym tests) (subst Accepted lent accepted)

-- ---- a comparison, told

pub rehearsed_from : (a : Holds) (job : Job) (code seen : Code) (done : Compared) → seen ≡ code → MayLoad job code
    → (result : Result Rehearsal RunRefusal) → IfOk result (IsToldAs seen.declared done)
    → LeavesTables a job code done.outcome done.rows.items done.changes
    → IfOk result (λ told. IsRehearsed a job told code)
rehearsed_from a job code seen done lent may (Ok told) h leaves = record {
  may = may;
  outcome = done.outcome;
  leaves =
      subst (λ (c : Changes). LeavesTables a job code done.outcome told.rows.items c) (sym h.changes)
      (subst (λ (r : List ℕ). LeavesTables a job code done.outcome r done.changes) (sym h.rows) leaves);
  ended = subst (λ (s : Code). IsTold s.declared.shape done.outcome told.ended) lent h.ended;
  tables =
      subst (λ (s : Code). told.tables.items ≡ map (λ (t : TableShape). t.name) s.declared.shape.tables) lent h.tables;
  indexes =
      subst (λ (s : Code). told.indexes.items ≡ map (λ (x : IndexShape). x.name) s.declared.shape.indexes) lent
      h.indexes;
  longest = subst (λ (s : Code). IsLongestFilter s.declared.filters told.longest_filter) lent h.longest;
}
rehearsed_from a job code seen done lent may (Err refusal) h leaves = h

-- ---- refusals, of the files and the counts of failures that these facts are of

pub refused_memory : (a b : Holds) → SameFiles a b → (f h : ℕ) → f ≤ h
    → (job : Job) (code : Code) (result : Result Rehearsal RunRefusal) → IfErr result (λ refusal. refusal ≡ Memory)
    → IfErr result (CodeRefused a job code (Rose f h))
refused_memory a b same f h counted job code (Ok told) no_memory = no_memory
refused_memory a b same f h counted job code (Err refusal) no_memory =
    subst (CodeRefused a job code (Rose f h)) (sym no_memory) tt

pub refused_tables : (a b : Holds) → SameFiles a b → (f h : ℕ) → f ≤ h → (job : Job) (code : Code) → MayLoad job code
    → (refusal : RunRefusal) → IsOfTables a job code (Rose f h) refusal
    → CodeRefused a job code (Rose f h) refusal
refused_tables a b same f h counted job code may (File fault) why = why
refused_tables a b same f h counted job code may (Rule refused) why = absurd why
refused_tables a b same f h counted job code may Disk why = why
refused_tables a b same f h counted job code may (Tables refusal) why = (may, why)
refused_tables a b same f h counted job code may Memory why = why
