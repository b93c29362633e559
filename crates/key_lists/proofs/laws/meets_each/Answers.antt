use Rattle.key_lists.proofs.LawLemmas.{meets_each}
use Rattle.key_lists.proofs.laws.meets_each.Goals as goal

pub returns : goal.returns
returns c = meets_each
