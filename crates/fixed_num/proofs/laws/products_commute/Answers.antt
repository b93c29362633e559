use Rattle.fixed_num.proofs.LawLemmas.{product_of-comm}
use Rattle.fixed_num.proofs.laws.products_commute.Goals as goal

pub returns : goal.returns
returns c = product_of-comm
