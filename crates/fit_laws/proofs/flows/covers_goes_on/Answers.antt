use Rattle.fit_laws.proofs.Covering.{covers_on}
use Rattle.fit_laws.proofs.flows.covers_goes_on.Goals as goal

pub returns : goal.returns
returns c = covers_on
