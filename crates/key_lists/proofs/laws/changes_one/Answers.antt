use Rattle.key_lists.proofs.LawLemmas.{changes_one}
use Rattle.key_lists.proofs.laws.changes_one.Goals as goal

pub returns : goal.returns
returns c = changes_one
