-- Runs in pieces.
use Rattle.std.proofs.Common.{◌≡◌, ℕ, ◌+◌, ◌-◌, ◌≤◌, false, subst, ◌∙◌, arith}
use Rattle.code_items.specs.declared.code.Code.{Code}
use Rattle.run_steps.specs.declared.ending.Outcome.{Outcome}
use Rattle.run_steps.specs.World.{World}
use Rattle.run_steps.specs.Pausing.{Came, is_dry}
use Rattle.run_steps.specs.Run.{spent, Ran, Stops}
use Rattle.run_steps.proofs.LeadingSteps.{after_more, spent_more, so_at_more}

pub joined : (code : Code) (a b c : World) (first second : ℕ) → Came code a first b → Came code b second c
    → Came code a (first + second) c
joined code a b c first second one two =
    let all = spent_more code a b one.count two.count one.reached in
    record {
      count = one.count + two.count;
      reached = after_more code a b one.count two.count one.reached ∙ two.reached;
      steps_are = omega (arith, one.steps_are, two.steps_are, all);
      finds =
          (let P : ℕ → World → Type 0 = λ k v. is_dry code v ≡ false in
          so_at_more P P code a b one.count two.count one.reached one.finds two.finds (λ j u wet. wet));
    }

pub ended : (code : Code) (a b c : World) (budget steps : ℕ) (outcome : Outcome) → Came code a steps b → steps ≤ budget
    → Ran code b (budget - steps) outcome c
    → Ran code a budget (record { end = outcome.end; steps = steps + outcome.steps }) c
ended code a b c budget steps outcome one le two =
    let all = spent_more code a b one.count two.count one.reached in
    let left : (budget - steps) - spent code b two.count ≡ budget - spent code a (one.count + two.count) =
    omega (arith, one.steps_are, all) in
    record {
      count = one.count + two.count;
      reached = after_more code a b one.count two.count one.reached ∙ two.reached;
      steps = omega (arith, one.steps_are, all, two.steps);
      within = omega (arith, le, two.within);
      stops = subst (λ n. Stops code c n outcome.end) left two.stops;
    }
