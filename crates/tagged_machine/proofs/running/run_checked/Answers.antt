use Rattle.std.proofs.Common.{sym, ap, subst, ◌∙◌}
use Rattle.code_items.specs.declared.code.Code.{Code}
use Rattle.code_rules.specs.Rules.{Accepted}
use Rattle.fit_laws.specs.Fits.{IsFitting, LevelsFall, procedure_at}
use Rattle.run_steps.specs.World.{World}
use Rattle.work_area.specs.Areas.{StoreState, IsWithinLimit}
use Rattle.tagged_machine.specs.Seen.{world_seen}
use Rattle.tagged_machine.proofs.running.run_checked.Goals as goal

pub returns-clause-safe : goal.returns-clause-safe
returns-clause-safe g c = λ accepted fits.
    let code = c.code.result.now in
    let lent = sym c.code.ensures.same in
    let old = world_seen c.world.inside.machine in
    let there = subst (λ (code : Code). IsFitting code old) lent
    (subst (IsFitting c.args.code.now) (sym c.world.view_is) fits) in
    c.safe_runs_meet_no_fault.ensures.end code old c.args.budget c.run_on-outcome.result _
    (c.fitting_worlds_are_safe.ensures code c.code.ensures.legal (subst Accepted lent accepted) old there)
    c.run_on-outcome.ensures.ran

pub returns-clause-levels : goal.returns-clause-levels
returns-clause-levels g c = λ accepted fits.
    let code = c.code.result.now in
    let lent = sym c.code.ensures.same in
    let old = world_seen c.world.inside.machine in
    let there = subst (λ (code : Code). IsFitting code old) lent
    (subst (IsFitting c.args.code.now) (sym c.world.view_is) fits) in
    let new = world_seen c.run_on-outcome.new.machine in
    let ran = c.run_on-outcome.ensures.ran in
    subst (λ (code : Code). LevelsFall code (procedure_at code new.place) new.returns) c.code.ensures.same
    (c.levels_fall.ensures code c.code.ensures.legal (subst Accepted lent accepted) old there ran.count new ran.reached)

pub returns-clause-few : goal.returns-clause-few
returns-clause-few g c = λ ran. c.runs_make_few_steps.ensures _ _ _ _ _ ran

pub returns-clause-fits : goal.returns-clause-fits
returns-clause-fits g c = λ accepted fits.
    let code = c.code.result.now in
    let lent = sym c.code.ensures.same in
    let old = world_seen c.world.inside.machine in
    let there = subst (λ (code : Code). IsFitting code old) lent
    (subst (IsFitting c.args.code.now) (sym c.world.view_is) fits) in
    let ran = c.run_on-outcome.ensures.ran in
    subst (λ (code : Code). IsFitting code (world_seen c.run_on-outcome.new.machine)) c.code.ensures.same
    (c.runs_keep_fitting.ensures code c.code.ensures.legal (subst Accepted lent accepted) old there ran.count _
    ran.reached)

pub returns-clause-within : goal.returns-clause-within
returns-clause-within g c = λ n v at.
    let old = c.args.world.now in
    c.runs_keep_the_limit.ensures c.args.code.now old old.env.store.limit
    (subst (λ (z : StoreState). IsWithinLimit z.limit z)
    (c.store.ensures ∙ ap (λ (w : World). w.env.store) c.world.view_is) c.tables_are_within_the_limit.ensures) n v at
