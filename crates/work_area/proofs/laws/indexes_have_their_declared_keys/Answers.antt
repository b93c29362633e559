use Rattle.work_area.proofs.ShapeLemmas.{are_found}
use Rattle.work_area.proofs.laws.indexes_have_their_declared_keys.Goals as goal

pub returns : goal.returns
returns c = are_found
