use Rattle.ndx_page.proofs.HeadOf.{heads_told}
use Rattle.ndx_page.proofs.laws.heads_are_told.Goals as goal

pub returns : goal.returns
returns c = heads_told
