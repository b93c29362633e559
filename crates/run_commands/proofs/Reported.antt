-- What the parts of a run say to each other, put together.
use Rattle.std.proofs.Common.{◌≡◌, ◌≤◌, subst, sym, ℕ, List, IfOk, IfErr}
use Rattle.std.specs.Prelude.{Result, Ok, Err}
use Rattle.code_items.specs.declared.code.Code.{Code}
use Rattle.code_rules.specs.Rules.{Accepted}
use Rattle.file_access.specs.Holding.{Holds, SameFiles, Rose}
use Rattle.file_commands.specs.Reports.{IsCodeFile}
use Rattle.run_commands.specs.declared.ending.Ended.{Ended}
use Rattle.run_commands.specs.declared.job.Job.{Job}
use Rattle.run_commands.specs.declared.refusal.RunRefusal.{RunRefusal}
use Rattle.run_commands.specs.declared.refusal.RunRefusal.TheVariants.{File, Rule, Disk, Tables, Memory}
use Rattle.run_commands.specs.declared.running.Report.{Report}
use Rattle.run_commands.specs.Parts.{CodeRefused, SavedAll, SavedSome, Stopped, CodeStopped}
use Rattle.run_commands.specs.Reports.{CodeRan, HasRun, IsTold, IsSavedRun, RefusedBefore, SavingStopped}
use Rattle.run_commands.specs.Runs.{IsSoundRun}
use Rattle.run_commands.proofs.Same.{saved_same, ended_same, ran_same, refused_same, stopped_same}
use Rattle.file_access.proofs.Holding.{rose_later}
use Rattle.run_steps.specs.declared.ending.Outcome.{Outcome}
use Rattle.table_files.specs.Loading.{Loaded}
use Rattle.work_area.specs.Areas.{StoreState}

-- what was loaded and run, of the code as it was lent
pub record IsDone (a b : Holds) (job : Job) (code seen : Code) (outcome : Outcome) (rows : List ℕ)
    (tables : StoreState) : Type 0 where
  pub same : SameFiles a b
  pub lent : seen ≡ code
  pub accepted : Accepted seen
  pub store : StoreState
  pub limit : ℕ
  pub limited : limit ≡ job.limit
  pub loaded : Loaded a seen.declared.shape limit store
  pub run : IsSoundRun code store job outcome rows tables

loaded_of : (a b : Holds) (job : Job) (code seen : Code) (outcome : Outcome) (rows : List ℕ) (tables : StoreState)
    (d : IsDone a b job code seen outcome rows tables) → Loaded a code.declared.shape job.limit d.store
loaded_of a b job code seen outcome rows tables d =
    subst (λ n. Loaded a code.declared.shape n d.store) d.limited
    (subst (λ s. Loaded a s.declared.shape d.limit d.store) d.lent d.loaded)

pub saved_run : (a b e : Holds) (job : Job) (code seen : Code) (outcome : Outcome) (rows shown : List ℕ)
    (tables : StoreState) → IsDone a b job code seen outcome rows tables → shown ≡ rows
    → (result : Result Ended RunRefusal) → IfOk result (IsTold seen.declared.shape outcome)
    → IfOk result (λ _. SavedAll b e job seen.declared.shape tables)
    → IfOk result (λ ended. IsSavedRun a e job code ended shown)
saved_run a b e job code seen outcome rows shown tables d is (Ok ended) told saved = record {
  outcome = outcome;
  tables = tables;
  stamp = saved.stamp;
  run = record {
    accepted = subst Accepted d.lent d.accepted;
    store = d.store;
    loaded = loaded_of a b job code seen outcome rows tables d;
    run = subst (λ r. IsSoundRun code d.store job outcome r tables) (sym is) d.run;
    stamped = saved.stamped;
  };
  told = subst (λ s. IsTold s.declared.shape outcome ended) d.lent told;
  saved =
      saved_same a b e d.same code.declared.shape tables saved.stamp _
      (subst (λ (s : Code). SavedAll b e job s.declared.shape tables) d.lent saved).saved;
}
saved_run a b e job code seen outcome rows shown tables d is (Err refusal) told saved = saved

pub stopped_run : (a b e : Holds) (f g h : ℕ) → f ≤ g → g ≤ h
    → (job : Job) (code seen : Code) (outcome : Outcome) (rows shown : List ℕ) (tables : StoreState)
    → IsDone a b job code seen outcome rows tables → shown ≡ rows
    → (result : Result Ended RunRefusal) → IfErr result (SavedSome b e (Rose g h) job seen.declared.shape tables)
    → IfErr result (Stopped a e (Rose f h) job code shown)
stopped_run a b e f g h fg gh job code seen outcome rows shown tables d is (Ok ended) s = s
stopped_run a b e f g h fg gh job code seen outcome rows shown tables d is (Err (File fault)) s = s
stopped_run a b e f g h fg gh job code seen outcome rows shown tables d is (Err (Rule refused)) s = s
stopped_run a b e f g h fg gh job code seen outcome rows shown tables d is (Err Disk) s = s
stopped_run a b e f g h fg gh job code seen outcome rows shown tables d is (Err (Tables refusal)) s =
    let here = subst (λ (c : Code). SavedSome b e (Rose g h) job c.declared.shape tables (Tables refusal)) d.lent s in
    record {
      outcome = outcome;
      tables = tables;
      stamp = here.stamp;
      run = record {
        accepted = subst Accepted d.lent d.accepted;
        store = d.store;
        loaded = loaded_of a b job code seen outcome rows tables d;
        run = subst (λ r. IsSoundRun code d.store job outcome r tables) (sym is) d.run;
        stamped = here.stamped;
      };
      stopped = ended_same a b e d.same code.declared.shape tables here.stamp (Rose f h) (Rose g h)
          (rose_later f g h fg gh) refusal here.stopped;
    }
stopped_run a b e f g h fg gh job code seen outcome rows shown tables d is (Err Memory) s = s

-- ---- of the file in which the code stands

pub has_run : (a b e : Holds) → SameFiles a b → (job : Job) (code : Code) → IsCodeFile (a job.name.now) code
    → (rows : List ℕ) (result : Result Ended RunRefusal)
    → IfOk result (λ ended. CodeRan b e job ended rows code) → IfOk result (λ ended. HasRun a e job ended rows)
has_run a b e same job code file rows (Ok ended) h = record {
  code = code;
  file = file;
  fits = ran_same a b e same job code ended rows h;
}
has_run a b e same job code file rows (Err refusal) h = h

pub reported : (a b e : Holds) → SameFiles a b → (job : Job) (code : Code) → IsCodeFile (a job.name.now) code
    → (result : Result Report RunRefusal)
    → IfOk result (λ r. IfOk r.result (λ ended. CodeRan b e job ended r.rows.items code))
    → IfOk result (λ r. IfOk r.result (λ ended. HasRun a e job ended r.rows.items))
reported a b e same job code file (Ok r) h = has_run a b e same job code file r.rows.items r.result h
reported a b e same job code file (Err refusal) h = h

saving_stopped : (a b e : Holds) → SameFiles a b → (broke breaks : Type 0) → (breaks → broke)
    → (job : Job) (code : Code) → IsCodeFile (a job.name.now) code → (rows : List ℕ) (refusal : RunRefusal)
    → CodeStopped b e breaks job code rows refusal → SavingStopped a e job broke refusal rows
saving_stopped a b e same broke breaks f job code file rows (File fault) h = h.1
saving_stopped a b e same broke breaks f job code file rows (Rule refused) h = h.1
saving_stopped a b e same broke breaks f job code file rows Disk h = h.1
saving_stopped a b e same broke breaks f job code file rows (Tables refusal) h = (
  h.0,
  record {
    code = code;
    file = file;
    fits = stopped_same a b e same broke breaks f job code rows (Tables refusal) h.1;
  },
)
saving_stopped a b e same broke breaks f job code file rows Memory h = h.1

pub each_stopped : (a b e : Holds) → SameFiles a b → (broke breaks : Type 0) → (breaks → broke)
    → (job : Job) (code : Code) → IsCodeFile (a job.name.now) code → (rows : List ℕ) (result : Result Ended RunRefusal)
    → IfErr result (CodeStopped b e breaks job code rows)
    → IfErr result (λ refusal. SavingStopped a e job broke refusal rows)
each_stopped a b e same broke breaks f job code file rows (Ok ended) h = h
each_stopped a b e same broke breaks f job code file rows (Err refusal) h =
    saving_stopped a b e same broke breaks f job code file rows refusal h

pub stopped : (a b e : Holds) → SameFiles a b → (broke breaks : Type 0) → (breaks → broke) → (job : Job) (code : Code)
    → IsCodeFile (a job.name.now) code → (result : Result Report RunRefusal)
    → IfOk result (λ r. IfErr r.result (CodeStopped b e breaks job code r.rows.items))
    → IfOk result (λ r. IfErr r.result (λ refusal. SavingStopped a e job broke refusal r.rows.items))
stopped a b e same broke breaks f job code file (Ok r) h =
    each_stopped a b e same broke breaks f job code file r.rows.items r.result h
stopped a b e same broke breaks f job code file (Err refusal) h = h

pub refused_before : (a b : Holds) → SameFiles a b → (broke breaks : Type 0) → (breaks → broke)
    → (job : Job) (code : Code) → IsCodeFile (a job.name.now) code → (refusal : RunRefusal)
    → CodeRefused b job code breaks refusal → RefusedBefore a job broke refusal
refused_before a b same broke breaks f job code file (File fault) h = absurd h
refused_before a b same broke breaks f job code file (Rule refused) h =
    (h.0, record { code = code; file = file; fits = h.1 })
refused_before a b same broke breaks f job code file Disk h = absurd h
refused_before a b same broke breaks f job code file (Tables refusal) h = record {
  code = code;
  file = file;
  fits = (h.0, refused_same a b same code.declared.shape job.limit broke breaks f refusal h.1);
}
refused_before a b same broke breaks f job code file Memory h = h

pub refused : {X : Type 0} (a b : Holds) → SameFiles a b → (broke breaks : Type 0) → (breaks → broke)
    → (job : Job) (code : Code) → IsCodeFile (a job.name.now) code → (result : Result X RunRefusal)
    → IfErr result (CodeRefused b job code breaks) → IfErr result (RefusedBefore a job broke)
refused a b same broke breaks f job code file (Ok r) h = h
refused a b same broke breaks f job code file (Err refusal) h =
    refused_before a b same broke breaks f job code file refusal h
