-- Runs of both machines as runs of a job.
use Rattle.std.proofs.Common.{◌≡◌, ◌∙◌, ap, refl, subst, ℕ, List, Option}
use Rattle.calendar.specs.declared.day.DayParts.{DayParts}
use Rattle.code_items.specs.declared.code.Code.{Code}
use Rattle.machine.specs.Twins.{BankState}
use Rattle.run_commands.specs.declared.job.Job.{Job}
use Rattle.run_commands.specs.Runs.{IsRun, IsLeft, IsSoundRun, begun}
use Rattle.operating.specs.Parts.{RunsTo}
use Rattle.run_steps.specs.declared.ending.Outcome.{Outcome}
use Rattle.run_steps.specs.Opening.{opening}
use Rattle.run_steps.specs.Run.{Ran}
use Rattle.run_steps.specs.Shapes.{StoreFits}
use Rattle.run_steps.specs.World.{World}
use Rattle.screen_lines.specs.State.{sent}
use Rattle.text_lines.specs.Lines.{short_lines}
use Rattle.work_area.specs.Areas.{StoreState}

-- the opening over these lines and this day is where the job's run begins
begins : (code : Code) (store : StoreState) (job : Job) (lines : List (List ℕ)) (today : Option DayParts)
    → lines ≡ short_lines job.input.now → today ≡ job.day → opening code store lines today ≡ begun code store job
begins code store job lines today el et = λ i. opening code store (el i) (et i)

abbrev run_from : (code : Code) (store : StoreState) (job : Job) (outcome : Outcome) (rows : List ℕ)
    (first last : World) (lines : List (List ℕ)) (today : Option DayParts)
    → first ≡ opening code store lines today → lines ≡ short_lines job.input.now → today ≡ job.day
    → Ran code first job.budget outcome last → rows ≡ sent last.env.screen → IsRun code store job outcome rows
run_from code store job outcome rows first last lines today e el et ran r = record {
  last = last;
  ran = subst (λ w. Ran code w job.budget outcome last) (e ∙ begins code store job lines today el et) ran;
  rows_are = r;
}

pub left_from : (code : Code) (store : StoreState) (job : Job) (outcome : Outcome) (rows : List ℕ) (first last : World)
    (lines : List (List ℕ)) (today : Option DayParts)
    → first ≡ opening code store lines today → lines ≡ short_lines job.input.now → today ≡ job.day
    → Ran code first job.budget outcome last → rows ≡ sent last.env.screen → StoreFits code.declared last.env.store
    → IsLeft code store job outcome rows last.env.store
left_from code store job outcome rows first last lines today e el et ran r fits = record {
  run = run_from code store job outcome rows first last lines today e el et ran r;
  tables_are = refl;
  fits = fits;
}

pub left_soundly : (code : Code) (store : StoreState) (job : Job) (outcome : Outcome) (rows : List ℕ)
    (tables : StoreState) → IsSoundRun code store job outcome rows tables → IsLeft code store job outcome rows tables
left_soundly code store job outcome rows tables h = record { run = h.run; tables_are = h.tables_are; fits = h.fits }

pub sound_from : (code : Code) (store : StoreState) (job : Job) (outcome : Outcome) (rows : List ℕ)
    (lines : List (List ℕ)) (today : Option DayParts) (b : BankState)
    → RunsTo code (opening code store lines today) job.budget outcome b → lines ≡ short_lines job.input.now
    → today ≡ job.day → rows ≡ sent b.env.screen → IsSoundRun code store job outcome rows b.env.store
sound_from code store job outcome rows lines today b h el et r = record {
  run = record {
    last = h.world;
    ran = subst (λ w. Ran code w job.budget outcome h.world) (begins code store job lines today el et) h.ran;
    rows_are = r ∙ ap sent h.agrees.screen;
  };
  no_fault = h.no_fault;
  tables_are = h.agrees.store;
  fits = h.declared;
}
