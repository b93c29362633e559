use Rattle.dbf_file.proofs.ValueLemmas.{texts_are_left}
use Rattle.dbf_file.proofs.laws.texts_are_left.Goals as goal

pub returns : goal.returns
returns c = texts_are_left
