use Rattle.run_laws.proofs.Steps.{steps_kept}
use Rattle.run_laws.proofs.laws.steps_keep_the_shape.Goals as goal

pub returns : goal.returns
returns c = λ code w i legal shape apart instr clear goes. steps_kept c.same_kinds_are_equal.ensures
    c.results_have_their_kind.ensures c.tables_keep_their_kind.ensures code w i
    (c.legal_codes.ensures code legal) shape apart instr clear goes
