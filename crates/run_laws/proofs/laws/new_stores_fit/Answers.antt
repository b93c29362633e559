use Rattle.run_laws.proofs.Openings.{new_fits}
use Rattle.run_laws.proofs.laws.new_stores_fit.Goals as goal

pub returns : goal.returns
returns c = λ d store shape closed. new_fits d store (c.stores_keep_their_shape.ensures d.shape store) shape closed
