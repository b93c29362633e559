use Rattle.dbf_file.proofs.ValueLemmas.{shape_of}
use Rattle.dbf_file.proofs.laws.fields_have_shapes.Goals as goal

pub returns : goal.returns
returns c = shape_of
