use Rattle.run_steps.specs.Opening.{opening}
use Rattle.fit_laws.proofs.laws.accepted_codes_are_safe.Goals as goal

pub returns : goal.returns
returns c = λ code store lines today ok accepted fits.
    c.fitting_worlds_are_safe.ensures code ok accepted (opening code store lines today)
    (c.openings_fit.ensures code store lines today ok accepted fits)
