use Rattle.fit_laws.proofs.Going.{goes_on}
use Rattle.fit_laws.proofs.laws.steps_keep_fitting.Goals as goal

pub returns : goal.returns
returns c = λ code ok accepted w f e.
    goes_on code c.covers_goes_on.ensures c.results_have_their_kind.ensures c.answers_keep_the_kind.ensures
    (c.states_connect.ensures code ok accepted) (c.rules_are_kept.ensures code accepted)
    (c.legal_codes.ensures code ok) w f (c.accepted_code_is_clear.ensures code ok accepted w f) e
