use Rattle.ndx_page.proofs.PageOf.{pages_told}
use Rattle.ndx_page.proofs.laws.pages_are_told.Goals as goal

pub returns : goal.returns
returns c = pages_told
