use Rattle.run_laws.proofs.Openings.{begins}
use Rattle.run_laws.proofs.laws.openings_have_the_shape.Goals as goal

pub returns : goal.returns
returns c =
    λ code store lines today legal fits. begins c.tables_keep_their_kind.ensures code store lines today legal
    (c.legal_codes.ensures code legal) fits
