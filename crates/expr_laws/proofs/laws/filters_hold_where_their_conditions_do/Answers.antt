use Rattle.expr_laws.proofs.Conditions.{shows}
use Rattle.expr_laws.proofs.laws.filters_hold_where_their_conditions_do.Goals as goal

pub returns : goal.returns
returns c = λ code s v number table row e ok filter here sound written.
    shows code c.results_have_their_kind.ensures c.same_kinds_are_equal.ensures
    (c.legal_codes.ensures code ok).stack_bound s v number table row e filter here sound written
