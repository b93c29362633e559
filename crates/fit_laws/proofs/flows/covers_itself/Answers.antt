use Rattle.fit_laws.proofs.Covering.{covers_self}
use Rattle.fit_laws.proofs.flows.covers_itself.Goals as goal

pub returns : goal.returns
returns c = covers_self
