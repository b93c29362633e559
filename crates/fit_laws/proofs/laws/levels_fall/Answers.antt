use Rattle.fit_laws.proofs.Returns.{fall}
use Rattle.fit_laws.specs.Fits.{procedure_at}
use Rattle.fit_laws.proofs.laws.levels_fall.Goals as goal

pub returns : goal.returns
returns c = λ code ok accepted w f n v e.
    fall code (c.states_connect.ensures code ok accepted) (procedure_at code v.place) v.returns
    (c.runs_keep_fitting.ensures code ok accepted w f n v e).awaits
