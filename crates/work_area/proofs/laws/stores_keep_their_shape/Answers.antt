use Rattle.work_area.proofs.ShapeLemmas.{shapes_stay}
use Rattle.work_area.proofs.laws.stores_keep_their_shape.Goals as goal

pub returns : goal.returns
returns c = shapes_stay
