use Rattle.run_laws.proofs.Staying.{run_stays}
use Rattle.run_laws.proofs.laws.runs_keep_the_shape.Goals as goal

pub returns : goal.returns
returns c = λ code w legal shape apart n v e.
    run_stays code (c.faultless_instructions_are_clear.ensures.clear code)
    (λ u i. c.steps_keep_the_shape.ensures code u i legal) (c.legal_codes.ensures code legal) w (shape, apart) n v e
