use Rattle.fixed_num.proofs.PrefixLemmas.{prefix_read-longest}
use Rattle.fixed_num.proofs.laws.prefixes_are_longest.Goals as goal

pub returns : goal.returns
returns c cs = prefix_read-longest cs
