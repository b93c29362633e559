-- A run that was spent and is taken up again.
use Rattle.std.proofs.Common.{◌≡◌, ℕ, ◌+◌, ◌-◌, ap, subst, ◌∙◌, arith}
use Rattle.code_items.specs.declared.code.Code.{Code}
use Rattle.run_steps.specs.declared.ending.Outcome.{Outcome}
use Rattle.run_steps.specs.declared.ending.End.TheVariants.{Spent}
use Rattle.run_steps.specs.World.{World}
use Rattle.run_steps.specs.Run.{spent, end_cost, Ran, Stops}
use Rattle.run_steps.proofs.LeadingSteps.{after_more, spent_more}

pub whole : (code : Code) (w v u : World) (budget more : ℕ) (first second : Outcome) → Ran code w budget first v
    → first.end ≡ Spent → Ran code v more second u
    → Ran code w (first.steps + more) (record { end = second.end; steps = first.steps + second.steps }) u
whole code w v u budget more first second one is_spent two =
    let none : end_cost code v first.end ≡ 0 = ap (end_cost code v) is_spent in
    let cost : first.steps ≡ spent code w one.count = omega (arith, one.steps, none) in
    let all = spent_more code w v one.count two.count one.reached in
    let left : more - spent code v two.count ≡ (first.steps + more) - spent code w (one.count + two.count) =
    omega (arith, cost, all) in
    record {
      count = one.count + two.count;
      reached = after_more code w v one.count two.count one.reached ∙ two.reached;
      steps = omega (arith, cost, all, two.steps);
      within = omega (arith, two.within);
      stops = subst (λ n. Stops code u n second.end) left two.stops;
    }
