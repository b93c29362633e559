use Rattle.key_lists.proofs.LawLemmas.{finds_nearest}
use Rattle.key_lists.proofs.laws.finds_nearest.Goals as goal

pub returns : goal.returns
returns c = finds_nearest
