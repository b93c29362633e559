use Rattle.fit_laws.proofs.Runs.{run_fits}
use Rattle.fit_laws.proofs.laws.runs_keep_fitting.Goals as goal

pub returns : goal.returns
returns c = λ code ok accepted w f n v e.
    run_fits code (record {
      safe = c.fitting_worlds_are_safe_here.ensures code ok accepted;
      on = c.fitting_goes_on.ensures code ok
          accepted;
    }) w f n v e
