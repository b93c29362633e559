use Rattle.std.proofs.Common.{subst}
use Rattle.machine.specs.Acceptance.{RunsWell}
use Rattle.machine.proofs.Kept.{kept}
use Rattle.machine.proofs.running.accepted_codes_run_well.Goals as goal

pub returns : goal.returns
returns c =
    let code = c.code-code.result.now in
    subst RunsWell c.code-code.ensures.same (record {
      safe = c.fitting_worlds_are_safe.ensures code c.code-code.ensures.legal c.code-code.ensures.accepted;
      fits = c.runs_keep_fitting.ensures code c.code-code.ensures.legal c.code-code.ensures.accepted;
      stack = c.fitting_worlds_keep_the_bounds.ensures.stack code;
      returns = c.fitting_worlds_keep_the_bounds.ensures.returns code;
      keeps = λ shape w n v. kept shape code w n v (record {
        stores = c.stores_keep_their_shape.ensures shape;
        tables = c.tables_keep_their_kind.ensures;
      });
      within = c.runs_keep_the_limit.ensures code;
      steps = c.safe_runs_meet_no_fault.ensures.steps code;
      end = c.safe_runs_meet_no_fault.ensures.end code;
      few = c.runs_cost_their_steps.ensures code;
      made = c.runs_make_few_steps.ensures code;
    })
