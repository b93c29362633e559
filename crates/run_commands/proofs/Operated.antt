-- What was carried out over the lines of a journal, as the run of the job with these lines.
use Rattle.std.proofs.Common.{◌≡◌, ◌≤◌, ◌∙◌, ap, refl, subst, sym, ℕ, List, Bool, false, IfOk, IfErr}
use Rattle.std.specs.Prelude.{Result, Ok, Err, MatchBool}
use Rattle.calendar.specs.declared.day.DayParts.{DayParts}
use Rattle.std.specs.Prelude.{Option}
use Rattle.code_items.specs.declared.code.Code.{Code}
use Rattle.code_rules.specs.Rules.{Accepted}
use Rattle.dbf_file.specs.Values.{stamp_of}
use Rattle.file_access.specs.Holding.{Holds, SameFiles, Rose}
use Rattle.file_commands.specs.Reports.{IsCodeFile, HasCode}
use Rattle.operating.specs.Talks.{ComesTo}
use Rattle.machine.specs.Twins.{BankState}
use Rattle.run_commands.specs.declared.conversation.OperateRefusal.{OperateRefusal}
use Rattle.run_commands.specs.declared.conversation.OperateRefusal.TheVariants.{Run, Broke, Handed}
use Rattle.run_commands.specs.declared.ending.Ended.{Ended}
use Rattle.run_commands.specs.declared.job.Job.{Job}
use Rattle.run_commands.specs.declared.refusal.RunRefusal.{RunRefusal}
use Rattle.run_commands.specs.declared.refusal.RunRefusal.TheVariants.{File, Rule, Disk, Tables, Memory}
use Rattle.run_commands.specs.declared.machines.Run.{Run as AnyRun}
use Rattle.run_commands.specs.declared.rehearsing.Compared.{Compared}
use Rattle.run_commands.specs.declared.rehearsing.Rehearsal.{Rehearsal}
use Rattle.run_commands.specs.declared.running.Report.{Report}
use Rattle.run_commands.specs.Operating.{IsWith, SoundOver, IfOfRun, IfOfTalk}
use Rattle.run_commands.specs.Parts.{IsOfTables, CodeRefused, SavedAll, SavedSome, Stopped, CodeStopped}
use Rattle.run_commands.specs.Rehearsals.{IsRehearsed, IsToldAs, LeavesTables}
use Rattle.run_commands.specs.Reports.{CodeRan, HasRun, IsTold, IsTested, IsSavedRun, RefusedBefore, SavingStopped}
use Rattle.run_commands.specs.Runs.{begun}
use Rattle.run_commands.proofs.Rehearsed.{leaves_told, may_accepted, refused_tables, rehearsed, rehearsed_from}
use Rattle.run_commands.proofs.Reported.{IsDone, saved_run, stopped_run, has_run, each_stopped, refused_before}
use Rattle.run_steps.specs.declared.ending.Outcome.{Outcome}
use Rattle.run_steps.specs.Opening.{opening}
use Rattle.run_steps.specs.Run.{Ran}
use Rattle.screen_lines.specs.State.{sent}
use Rattle.shape.specs.declared.whole.Shape.{Shape}
use Rattle.table_changes.specs.Stores.{AreChanges}
use Rattle.table_changes.specs.declared.stores.Changes.{Changes}
use Rattle.table_files.specs.Loading.{Loaded}
use Rattle.text_lines.specs.Lines.{short_lines}
use Rattle.work_area.specs.Areas.{StoreState}

pub sound_over : (code : Code) (store : StoreState) (job : Job) (typed rows : List ℕ) (today : Option DayParts)
    (outcome : Outcome) (b : BankState) → ComesTo code store today typed job.budget outcome b
    → rows ≡ sent b.env.screen → today ≡ job.day → SoundOver code store job typed outcome rows b.env.store
sound_over code store job typed rows today outcome b h shown day = λ whole w.
    let lines : short_lines typed ≡ short_lines whole.input.now = ap short_lines (sym w.input) in
    let on : today ≡ whole.day = day ∙ sym w.day in
    let same : opening code store (short_lines typed) today ≡ begun code store whole =
    λ i. opening code store (lines i) (on i) in
    record {
      run = record {
        last = h.last;
        ran =
            subst (λ (n : ℕ). Ran code (begun code store whole) n outcome h.last) (sym w.budget)
            (subst (λ x. Ran code x job.budget outcome h.last) same h.ran);
        rows_are = shown ∙ ap sent h.agrees.screen;
      };
      no_fault = h.no_fault;
      tables_are = h.agrees.store;
      fits = h.declared;
    }

-- ---- a run that is saved

-- what was loaded and run, of the code as it was lent, over the lines of this text
pub record Prepared (a b : Holds) (job : Job) (typed : List ℕ) (code seen : Code) (outcome : Outcome) (rows : List ℕ)
    (tables : StoreState) : Type 0 where
  pub same : SameFiles a b
  pub lent : seen ≡ code
  pub accepted : Accepted seen
  pub store : StoreState
  pub limit : ℕ
  pub limited : limit ≡ job.limit
  pub loaded : Loaded a seen.declared.shape limit store
  pub sound : SoundOver code store job typed outcome rows tables

done_for : (a b : Holds) (job : Job) (typed : List ℕ) (code seen : Code) (outcome : Outcome) (rows : List ℕ)
    (tables : StoreState) → Prepared a b job typed code seen outcome rows tables
    → (whole : Job) → IsWith job typed whole → IsDone a b whole code seen outcome rows tables
done_for a b job typed code seen outcome rows tables p whole w = record {
  same = p.same;
  lent = p.lent;
  accepted = p.accepted;
  store = p.store;
  limit = p.limit;
  limited = p.limited ∙ sym w.limit;
  loaded = p.loaded;
  run = p.sound whole w;
}

saved_with : (b e : Holds) (job whole : Job) (typed : List ℕ) (shape : Shape) (tables : StoreState)
    → IsWith job typed whole → SavedAll b e job shape tables → SavedAll b e whole shape tables
saved_with b e job whole typed shape tables w h = record {
  stamp = h.stamp;
  stamped = ap stamp_of w.day ∙ h.stamped;
  saved = h.saved;
}

some_with : (b e : Holds) (broke : Type 0) (job whole : Job) (typed : List ℕ) (shape : Shape) (tables : StoreState)
    (refusal : RunRefusal) → IsWith job typed whole → SavedSome b e broke job shape tables refusal
    → SavedSome b e broke whole shape tables refusal
some_with b e broke job whole typed shape tables (File fault) w h = h
some_with b e broke job whole typed shape tables (Rule refused) w h = h
some_with b e broke job whole typed shape tables Disk w h = h
some_with b e broke job whole typed shape tables (Tables refusal) w h = record {
  stamp = h.stamp;
  stamped = ap stamp_of w.day ∙ h.stamped;
  stopped = h.stopped;
}
some_with b e broke job whole typed shape tables Memory w h = h

pub saved_over : (a b e : Holds) (job : Job) (typed : List ℕ) (code seen : Code) (outcome : Outcome)
    (rows shown : List ℕ) (tables : StoreState) → Prepared a b job typed code seen outcome rows tables → shown ≡ rows
    → (result : Result Ended RunRefusal) → IfOk result (IsTold seen.declared.shape outcome)
    → IfOk result (λ _. SavedAll b e job seen.declared.shape tables)
    → IfOk result (λ ended. (whole : Job) → IsWith job typed whole → IsSavedRun a e whole code ended shown)
saved_over a b e job typed code seen outcome rows shown tables p is (Ok ended) told saved = λ whole w.
    saved_run a b e whole code seen outcome rows shown tables
    (done_for a b job typed code seen outcome rows tables p whole w) is (Ok ended) told
    (saved_with b e job whole typed seen.declared.shape tables w saved)
saved_over a b e job typed code seen outcome rows shown tables p is (Err refusal) told saved = saved

pub stopped_over : (a b e : Holds) (f g h : ℕ) → f ≤ g → g ≤ h
    → (job : Job) (typed : List ℕ) (code seen : Code) (outcome : Outcome) (rows shown : List ℕ) (tables : StoreState)
    → Prepared a b job typed code seen outcome rows tables → shown ≡ rows
    → (result : Result Ended RunRefusal) → IfErr result (SavedSome b e (Rose g h) job seen.declared.shape tables)
    → IfErr result (λ refusal. (whole : Job) → IsWith job typed whole → Stopped a e (Rose f h) whole code shown refusal)
stopped_over a b e f g h fg gh job typed code seen outcome rows shown tables p is (Ok ended) s = s
stopped_over a b e f g h fg gh job typed code seen outcome rows shown tables p is (Err refusal) s = λ whole w.
    stopped_run a b e f g h fg gh whole code seen outcome rows shown tables
    (done_for a b job typed code seen outcome rows tables p whole w) is (Err refusal)
    (some_with b e (Rose g h) job whole typed seen.declared.shape tables refusal w s)

-- ---- of the code, whether it is tested being known

accepted_for : (job whole : Job) (typed : List ℕ) → IsWith job typed whole → job.checked ≡ false → whole.checked ≡ false
accepted_for job whole typed w untested = w.checked ∙ untested

ran_of : (a e : Holds) (whole : Job) (ended : Ended) (rows : List ℕ) (code : Code) → whole.checked ≡ false
    → IsSavedRun a e whole code ended rows → CodeRan a e whole ended rows code
ran_of a e whole ended rows code untested h =
    subst (λ (x : Bool). MatchBool x (IsTested a whole code ended rows × SameFiles a e)
    (IsSavedRun a e whole code ended rows)) (sym untested) h

ran_each : (a e : Holds) (job : Job) (typed rows : List ℕ) (code seen : Code) → seen ≡ code → job.checked ≡ false
    → (result : Result Ended RunRefusal)
    → IfOk result (λ ended. (whole : Job) → IsWith job typed whole → IsSavedRun a e whole seen ended rows)
    → IfOk result (λ ended. (whole : Job) → IsWith job typed whole → CodeRan a e whole ended rows code)
ran_each a e job typed rows code seen lent untested (Ok ended) h =
    λ whole w. ran_of a e whole ended rows code (accepted_for job whole typed w untested)
    (subst (λ (c : Code). IsSavedRun a e whole c ended rows) lent (h whole w))
ran_each a e job typed rows code seen lent untested (Err refusal) h = h

pub ran_over : (a e : Holds) (job : Job) (typed : List ℕ) (code seen : Code) → seen ≡ code → job.checked ≡ false
    → (result : Result Report OperateRefusal)
    → IfOk result
    (λ r. IfOk r.result (λ ended. (whole : Job) → IsWith job typed whole → IsSavedRun a e whole seen ended
    r.rows.items))
    → IfOk result
    (λ r. IfOk r.result (λ ended. (whole : Job) → IsWith job typed whole → CodeRan a e whole ended r.rows.items
    code))
ran_over a e job typed code seen lent untested (Ok r) h =
    ran_each a e job typed r.rows.items code seen lent untested r.result h
ran_over a e job typed code seen lent untested (Err refusal) h = h

stop_each : (a e : Holds) (broke : Type 0) (job : Job) (typed rows : List ℕ) (code seen : Code) → seen ≡ code
    → job.checked ≡ false → (result : Result Ended RunRefusal)
    → IfErr result (λ refusal. (whole : Job) → IsWith job typed whole → Stopped a e broke whole seen rows refusal)
    → IfErr result
    (λ refusal. (whole : Job) → IsWith job typed whole → CodeStopped a e broke whole code rows refusal)
stop_each a e broke job typed rows code seen lent untested (Ok ended) h = h
stop_each a e broke job typed rows code seen lent untested (Err refusal) h =
    λ whole w. (
      accepted_for job whole typed w untested,
      subst (λ (c : Code). Stopped a e broke whole c rows refusal)
          lent (h whole w),
    )

pub stop_over : (a e : Holds) (broke : Type 0) (job : Job) (typed : List ℕ) (code seen : Code) → seen ≡ code
    → job.checked ≡ false → (result : Result Report OperateRefusal)
    → IfOk result
    (λ r. IfErr r.result (λ refusal. (whole : Job) → IsWith job typed whole → Stopped a e broke whole seen
    r.rows.items refusal))
    → IfOk result
    (λ r. IfErr r.result (λ refusal. (whole : Job) → IsWith job typed whole → CodeStopped a e broke whole code
    r.rows.items refusal))
stop_over a e broke job typed code seen lent untested (Ok r) h =
    stop_each a e broke job typed r.rows.items code seen lent untested r.result h
stop_over a e broke job typed code seen lent untested (Err refusal) h = h

code_refused : (a : Holds) (f h : ℕ) → f ≤ h → (job : Job) (code seen : Code) → seen ≡ code → Accepted code
    → job.checked ≡ false → (refusal : OperateRefusal) → IfOfRun (IsOfTables a job seen (Rose f h)) refusal
    → IfOfRun (CodeRefused a job code (Rose f h)) refusal
code_refused a f h le job code seen lent accepted untested (Run refusal) why =
    refused_tables a a (λ name found. ((λ x. x), (λ x. x))) f h le job code
    (may_accepted job code code untested refl accepted) refusal
    (subst (λ (c : Code). IsOfTables a job c (Rose f h) refusal) lent why)
code_refused a f h le job code seen lent accepted untested (Broke why) h' = h'
code_refused a f h le job code seen lent accepted untested Handed h' = h'

pub code_refused_over : {X : Type 0} (a : Holds) (f h : ℕ) → f ≤ h → (job : Job) (code seen : Code) → seen ≡ code
    → Accepted code → job.checked ≡ false → (result : Result X OperateRefusal)
    → IfErr result (IfOfRun (IsOfTables a job seen (Rose f h)))
    → IfErr result (IfOfRun (CodeRefused a job code (Rose f h)))
code_refused_over a f h le job code seen lent accepted untested (Ok x) why = why
code_refused_over a f h le job code seen lent accepted untested (Err refusal) why =
    code_refused a f h le job code seen lent accepted untested refusal why

-- ---- of the file in which the code stands

file_for : (a : Holds) (job whole : Job) (typed : List ℕ) (code : Code) → IsWith job typed whole
    → IsCodeFile (a job.name.now) code → IsCodeFile (a whole.name.now) code
file_for a job whole typed code w file = subst (λ (n : List ℕ). IsCodeFile (a n) code) (sym w.name) file

read_each : (a b e : Holds) → SameFiles a b → (job : Job) (typed rows : List ℕ) (code : Code)
    → IsCodeFile (a job.name.now) code → (result : Result Ended RunRefusal)
    → IfOk result (λ ended. (whole : Job) → IsWith job typed whole → CodeRan b e whole ended rows code)
    → IfOk result (λ ended. (whole : Job) → IsWith job typed whole → HasRun a e whole ended rows)
read_each a b e same job typed rows code file (Ok ended) h =
    λ whole w. has_run a b e same whole code (file_for a job whole typed code w file) rows (Ok ended) (h whole w)
read_each a b e same job typed rows code file (Err refusal) h = h

pub read_over : (a b e : Holds) → SameFiles a b → (job : Job) (typed : List ℕ) (code : Code)
    → IsCodeFile (a job.name.now) code → (result : Result Report OperateRefusal)
    → IfOk result
    (λ r. IfOk r.result (λ ended. (whole : Job) → IsWith job typed whole → CodeRan b e whole ended r.rows.items
    code))
    → IfOk result
    (λ r. IfOk r.result (λ ended. (whole : Job) → IsWith job typed whole → HasRun a e whole ended r.rows.items))
read_over a b e same job typed code file (Ok r) h = read_each a b e same job typed r.rows.items code file r.result h
read_over a b e same job typed code file (Err refusal) h = h

halt_each : (a b e : Holds) → SameFiles a b → (broke breaks : Type 0) → (breaks → broke)
    → (job : Job) (typed rows : List ℕ) (code : Code) → IsCodeFile (a job.name.now) code
    → (result : Result Ended RunRefusal)
    → IfErr result (λ refusal. (whole : Job) → IsWith job typed whole → CodeStopped b e breaks whole code rows refusal)
    → IfErr result (λ refusal. (whole : Job) → IsWith job typed whole → SavingStopped a e whole broke refusal rows)
halt_each a b e same broke breaks f job typed rows code file (Ok ended) h = h
halt_each a b e same broke breaks f job typed rows code file (Err refusal) h =
    λ whole w. each_stopped a b e same broke breaks f whole code (file_for a job whole typed code w file) rows
    (Err refusal) (h whole w)

pub halt_over : (a b e : Holds) → SameFiles a b → (broke breaks : Type 0) → (breaks → broke)
    → (job : Job) (typed : List ℕ) (code : Code) → IsCodeFile (a job.name.now) code
    → (result : Result Report OperateRefusal)
    → IfOk result
    (λ r. IfErr r.result (λ refusal. (whole : Job) → IsWith job typed whole → CodeStopped b e breaks whole code
    r.rows.items refusal))
    → IfOk result
    (λ r. IfErr r.result (λ refusal. (whole : Job) → IsWith job typed whole → SavingStopped a e whole broke refusal
    r.rows.items))
halt_over a b e same broke breaks f job typed code file (Ok r) h =
    halt_each a b e same broke breaks f job typed r.rows.items code file r.result h
halt_over a b e same broke breaks f job typed code file (Err refusal) h = h

read_refusal : (a b : Holds) → SameFiles a b → (broke breaks : Type 0) → (breaks → broke) → (job : Job) (code : Code)
    → IsCodeFile (a job.name.now) code → (refusal : OperateRefusal)
    → IfOfRun (CodeRefused b job code breaks) refusal → IfOfRun (RefusedBefore a job broke) refusal
read_refusal a b same broke breaks f job code file (Run refusal) h =
    refused_before a b same broke breaks f job code file refusal h
read_refusal a b same broke breaks f job code file (Broke why) h = h
read_refusal a b same broke breaks f job code file Handed h = h

pub refused_over : {X : Type 0} (a b : Holds) → SameFiles a b → (broke breaks : Type 0) → (breaks → broke)
    → (job : Job) (code : Code) → IsCodeFile (a job.name.now) code → (result : Result X OperateRefusal)
    → IfErr result (IfOfRun (CodeRefused b job code breaks)) → IfErr result (IfOfRun (RefusedBefore a job broke))
refused_over a b same broke breaks f job code file (Ok x) h = h
refused_over a b same broke breaks f job code file (Err refusal) h =
    read_refusal a b same broke breaks f job code file refusal h

-- ---- a run that is rehearsed

pub leaves_over : {E : Type 0} (a : Holds) (job : Job) (typed : List ℕ) (code seen : Code) (done : Compared)
    (run from : AnyRun) (store tables shown : StoreState) (found : Result Changes E) (limit : ℕ) → seen ≡ code
    → limit ≡ job.limit
    → Loaded a seen.declared.shape limit store → SoundOver code store job typed from.outcome from.rows.items tables
    → run ≡ from → shown ≡ tables → IfOk found (AreChanges seen.declared.shape store shown)
    → (found ≡ Ok done.changes) × (done.outcome ≡ run.outcome) × (done.rows ≡ run.rows)
    → (whole : Job) → IsWith job typed whole → LeavesTables a whole code done.outcome done.rows.items done.changes
leaves_over a job typed code seen done run from store tables shown found limit lent limited loaded sound alone same
    changed told = λ whole w.
    leaves_told a whole code seen done run from store tables shown found limit lent (limited ∙ sym w.limit) loaded
    (sound whole w) alone same changed told

pub rehearsed_over : (a : Holds) (job : Job) (typed : List ℕ) (code seen : Code) (done : Compared) → seen ≡ code
    → Accepted seen → job.checked ≡ false → (told : Rehearsal) → IsToldAs seen.declared done told
    → ((whole : Job) → IsWith job typed whole → LeavesTables a whole code done.outcome done.rows.items done.changes)
    → (whole : Job) → IsWith job typed whole → IsRehearsed a whole told code
rehearsed_over a job typed code seen done lent accepted untested told h leaves = λ whole w.
    rehearsed_from a whole code seen done lent
    (may_accepted whole code seen (accepted_for job whole typed w untested) lent accepted) (Ok told) h
    (leaves whole w)

pub lent_over : (a : Holds) (job : Job) (typed : List ℕ) (code seen : Code) → seen ≡ code
    → (result : Result Rehearsal OperateRefusal)
    → IfOk result (λ told. (whole : Job) → IsWith job typed whole → IsRehearsed a whole told seen)
    → IfOk result (λ told. (whole : Job) → IsWith job typed whole → IsRehearsed a whole told code)
lent_over a job typed code seen lent result h =
    subst (λ (c : Code). IfOk result (λ told. (whole : Job) → IsWith job typed whole → IsRehearsed a whole told c)) lent
    h

pub rehearsal_over : (a b : Holds) → SameFiles a b → (job : Job) (typed : List ℕ) (code : Code)
    → IsCodeFile (a job.name.now) code → (result : Result Rehearsal OperateRefusal)
    → IfOk result (λ told. (whole : Job) → IsWith job typed whole → IsRehearsed b whole told code)
    → IfOk result
    (λ told. (whole : Job) → IsWith job typed whole → HasCode (a whole.name.now) (IsRehearsed a whole told))
rehearsal_over a b same job typed code file (Ok told) h =
    λ whole w. rehearsed a b same whole code (file_for a job whole typed code w file) (Ok told) (h whole w)
rehearsal_over a b same job typed code file (Err refusal) h = h

-- ---- a conversation that began

pub of_talk : {A : Type 0} (says : RunRefusal → Type 0) (handed : List ℕ) (most : ℕ) (result : Result A OperateRefusal)
    → IfErr result (IfOfRun says) → IfErr result (IfOfTalk says handed most)
of_talk says handed most (Ok told) h = h
of_talk says handed most (Err (Run refusal)) h = h
of_talk says handed most (Err (Broke why)) h = h
of_talk says handed most (Err Handed) h = absurd h
