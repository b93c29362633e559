use Rattle.shape.proofs.LegalLemmas.{legal}
use Rattle.shape.proofs.laws.legal_shapes_have_keys.Goals as goal

pub returns : goal.returns
returns c = legal
