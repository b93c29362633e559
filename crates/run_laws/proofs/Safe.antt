-- Runs from worlds from which no fault is met.
use Rattle.std.proofs.Common.{◌≡◌, ℕ, Bool, true, false, Some, sym, subst, if◌then◌else◌}
use Rattle.code_items.specs.declared.code.Code.{Code}
use Rattle.code_rules.specs.Places.{instr_at}
use Rattle.run_steps.specs.declared.ending.End.{End}
use Rattle.run_steps.specs.declared.ending.End.TheVariants.{Finished as EndFinished, Spent, Full, NoMemory, Fault}
use Rattle.run_steps.specs.declared.ending.Outcome.{Outcome}
use Rattle.run_steps.specs.World.{World}
use Rattle.run_steps.specs.Control.{effect, finishes}
use Rattle.run_steps.specs.Run.{Next, Finished, NoRoom, is_full, judged, step_of, after, IsNoFault, IsFault, Stops, Ran}
use Rattle.run_steps.specs.Safe.{IsSafe, IsSafeHere}

no_fault_by : (w : World) (b full : Bool) → IsNoFault (if b then Finished else if full then NoRoom else Next w)
no_fault_by w true full = tt
no_fault_by w false true = tt
no_fault_by w false false = tt

no_fault : (code : Code) (w : World) → IsSafeHere code w → IsNoFault (step_of code w)
unfolding step_of
no_fault code w s =
    let i = instr_at code w.place in
    subst (λ f. IsNoFault
    (judged f (if finishes w i then Finished else if is_full w.env i then NoRoom else Next (effect code w i))))
    (sym s.sound) (no_fault_by (effect code w i) (finishes w i) (is_full w.env i))

ends_well : (code : Code) (w : World) (left : ℕ) (end : End) → IsNoFault (step_of code w) → Stops code w left end
    → ¬ IsFault end
ends_well code w left EndFinished sound stops = λ x. x
ends_well code w left Spent sound stops = λ x. x
ends_well code w left (Full table) sound stops = λ x. x
ends_well code w left NoMemory sound stops = λ x. x
ends_well code w left (Fault kind at) sound stops = λ x. subst IsNoFault stops.0 sound

pub steps_well : (code : Code) (w : World) → IsSafe code w → (n : ℕ) (v : World) → after code w n ≡ Some v
    → IsNoFault (step_of code v)
steps_well code w safe n v e = no_fault code v (safe n v e)

pub run_ends_well : (code : Code) (w : World) (budget : ℕ) (outcome : Outcome) (v : World) → IsSafe code w
    → Ran code w budget outcome v → ¬ IsFault outcome.end
run_ends_well code w budget outcome v safe ran =
    ends_well code v _ outcome.end (no_fault code v (safe ran.count v ran.reached)) ran.stops
