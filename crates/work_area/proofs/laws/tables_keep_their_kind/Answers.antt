use Rattle.work_area.proofs.ShapeLemmas.{kinds_stay}
use Rattle.work_area.proofs.laws.tables_keep_their_kind.Goals as goal

pub returns : goal.returns
returns c = kinds_stay
