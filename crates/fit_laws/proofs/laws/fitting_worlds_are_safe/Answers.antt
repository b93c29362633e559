use Rattle.fit_laws.proofs.laws.fitting_worlds_are_safe.Goals as goal

pub returns : goal.returns
returns c =
    λ code ok accepted w f n v e. c.fitting_worlds_are_safe_here.ensures code ok accepted v
    (c.runs_keep_fitting.ensures code ok accepted w f n v e)
