-- Parts of a run on the checking machine as one run.
use Rattle.std.proofs.Common.{◌≡◌, ◌≤◌, ◌+◌, ◌-◌, refl, arith, ℕ}
use Rattle.code_items.specs.declared.code.Code.{Code}
use Rattle.run_steps.specs.declared.ending.End.TheVariants.{Spent}
use Rattle.run_steps.specs.declared.ending.Outcome.{Outcome}
use Rattle.run_steps.specs.Run.{Ran}
use Rattle.run_steps.specs.World.{World}
use Rattle.operating.specs.Pieces.{LeadsTo}
use Rattle.operating.proofs.PartLemmas.{Whole}
use Rattle.operating.proofs.PieceLemmas.{Wider, same_run}

pub leads_at_once : (code : Code) (w : World) → LeadsTo code w 0 w
leads_at_once code w =
    λ more outcome last r. same_run code w last more (0 + more) outcome.steps (0 + outcome.steps) outcome.end
    (omega arith) (omega arith) r

-- behind a part that was spent
pub leads_on : (code : Code) (w v u : World) (steps part : ℕ) (first : Outcome) → Whole → LeadsTo code w steps v
    → Ran code v part first u → first.end ≡ Spent
    → LeadsTo code w (steps + first.steps) u
leads_on code w v u steps part first law leads r spent = λ more outcome last next.
    same_run code w last (steps + (first.steps + more)) ((steps + first.steps) + more)
    (steps + (first.steps + outcome.steps)) ((steps + first.steps) + outcome.steps) outcome.end
    (omega arith) (omega arith)
    (leads (first.steps + more) (record { end = outcome.end; steps = first.steps + outcome.steps }) last
    (law code v u last part more first outcome r spent next))

-- the last part
pub leads_over : (code : Code) (w v u : World) (steps part budget : ℕ) (outcome : Outcome) → Wider → steps ≤ budget
    → part ≤ budget - steps → (outcome.end ≡ Spent → part ≡ budget - steps)
    → LeadsTo code w steps v → Ran code v part outcome u
    → Ran code w budget (record { end = outcome.end; steps = steps + outcome.steps }) u
leads_over code w v u steps part budget outcome wider le within all leads r =
    same_run code w u (steps + (budget - steps)) budget (steps + outcome.steps) (steps + outcome.steps) outcome.end
    (omega (arith, le)) refl
    (leads (budget - steps) outcome u (wider code v u part (budget - steps) outcome within all r))

-- behind a part that paid for nothing a greater one is as if it had been the first
pub ran_once_more : (code : Code) (w v u : World) (before more : ℕ) (first second : Outcome) → Whole
    → Ran code w before first v → first.end ≡ Spent → first.steps ≡ 0
    → Ran code v more second u → Ran code w more second u
ran_once_more code w v u before more first second law r is none s =
    same_run code w u (first.steps + more) more (first.steps + second.steps) second.steps second.end
    (omega (arith, none)) (omega (arith, none)) (law code w v u before more first second r is s)
