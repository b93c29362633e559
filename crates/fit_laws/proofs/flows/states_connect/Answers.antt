use Rattle.fit_laws.proofs.Connecting.{connects}
use Rattle.fit_laws.proofs.flows.states_connect.Goals as goal

pub returns : goal.returns
returns c =
    λ code ok accepted. connects code ok (c.legal_codes.ensures code ok) (c.rules_are_kept.ensures code accepted)
