use Rattle.dbf_file.proofs.ValueLemmas.{fields_are_good}
use Rattle.dbf_file.proofs.laws.fields_are_good.Goals as goal

pub returns : goal.returns
returns c = fields_are_good
