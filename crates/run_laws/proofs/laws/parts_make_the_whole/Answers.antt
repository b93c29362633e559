use Rattle.run_laws.proofs.Parts.{whole}
use Rattle.run_laws.proofs.laws.parts_make_the_whole.Goals as goal

pub returns : goal.returns
returns c = whole
