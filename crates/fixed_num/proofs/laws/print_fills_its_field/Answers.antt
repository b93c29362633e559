use Rattle.fixed_num.proofs.LawLemmas.{printed-fills}
use Rattle.fixed_num.proofs.laws.print_fills_its_field.Goals as goal

pub returns : goal.returns
returns c = printed-fills
