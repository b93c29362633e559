-- Runs that ended for want of budget.
use Rattle.std.proofs.Common.{◌≡◌, ℕ, zero, suc, ◌+◌, ◌-◌, ◌<◌, ◌≤◌, Option, Some, None, refl, sym, ap, subst, ◌∙◌}
use Rattle.std.proofs.Common.{arith, ◌⊎◌, inl, inr, ⊎_elim}
use Rattle.std.proofs.Math.Nat.{eq-or-lt_of_le}
use Rattle.std.specs.Prelude.{option_and_then}
use Rattle.std.proofs.lemmas.Bool.{cases_lt}
use Rattle.std.proofs.lemmas.Option.{same_Some}
use Rattle.code_items.specs.declared.code.Code.{Code}
use Rattle.run_steps.specs.declared.ending.End.TheVariants.{Spent}
use Rattle.run_steps.specs.declared.ending.Outcome.{Outcome}
use Rattle.run_steps.specs.World.{World}
use Rattle.run_steps.specs.Run.{after, spent, cost_in, cost_of, step_of, next_world, Stops, Ran}
use Rattle.run_steps.proofs.Costs.{some_cost}

-- more steps cost what fewer do and the step behind those, or more
more_steps : (code : Code) (w : World) (n m : ℕ) (u v : World) → n < m → after code w n ≡ Some u
    → after code w m ≡ Some v → spent code w n + cost_of code u ≤ spent code w m
more_steps code w n zero u v less at there = absurd (omega (arith, less))
more_steps code w n (suc m) u v less at there =
    from (after code w m) refl there (λ x before e. more_steps code w n m u x before at e)
    (eq-or-lt_of_le (let le : n ≤ m = omega (arith, less) in le))
  where
    from : (x : Option World) → after code w m ≡ x → option_and_then (λ y. next_world (step_of code y)) x ≡ Some v
        → ((x : World) → n < m → after code w m ≡ Some x → spent code w n + cost_of code u ≤ spent code w m)
        → (n ≡ m) ⊎ (n < m) → spent code w n + cost_of code u ≤ spent code w m + cost_in code (after code w m)
    from None e on again which = absurd (cc)
    from (Some x) e on again (inl same) =
        let sum = ap (spent code w) same in
        let paid : cost_in code (after code w m) ≡ cost_of code u =
        ap (λ k. cost_in code (after code w k)) (sym same) ∙ ap (cost_in code) at in omega (arith, sum, paid)
    from (Some x) e on again (inr before) = (let le = again x before e in omega (arith, le))

-- a run that ended spent, where steps cost the whole budget
pub one_world : (code : Code) (w u v : World) (n : ℕ) (outcome : Outcome) → after code w n ≡ Some u
    → Ran code w (spent code w n) outcome v → outcome.end ≡ Spent → v ≡ u
one_world code w u v n outcome at ran is =
    let left = (subst (Stops code v (spent code w n - spent code w ran.count)) is ran.stops).1 in
    let some = some_cost code u in
    ⊎_elim (λ less. absurd (let paid = more_steps code w ran.count n v u less ran.reached at in omega
    (arith, left, paid)))
    (λ no_less. ⊎_elim (λ less. absurd (let paid = more_steps code w n ran.count u v less at ran.reached in omega
    (arith, some, paid, ran.steps, ran.within)))
    (λ no_more. let same : ran.count ≡ n = omega (arith, no_less, no_more) in
    same_Some v u (sym ran.reached ∙ ap (after code w) same ∙ at)) (cases_lt n ran.count)) (cases_lt ran.count n)
