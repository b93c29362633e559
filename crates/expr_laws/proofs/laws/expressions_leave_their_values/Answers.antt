use Rattle.expr_laws.proofs.Worlds.{left_safely}
use Rattle.expr_laws.proofs.laws.expressions_leave_their_values.Goals as goal

pub returns : goal.returns
returns c = record {
  world = λ code s w e kind block ok accepted fits stands written there.
      (left_safely code c.results_have_their_kind.ensures s w e kind block
      (c.fitting_worlds_are_safe.ensures code ok accepted w fits) fits stands written there).world;
  steps = λ code s w e kind block ok accepted fits stands written there.
      (left_safely code c.results_have_their_kind.ensures s w e kind block
      (c.fitting_worlds_are_safe.ensures code ok accepted w fits) fits stands written there).cost;
  kind = λ code s w e kind block ok accepted fits stands written there.
      (left_safely code c.results_have_their_kind.ensures s w e kind block
      (c.fitting_worlds_are_safe.ensures code ok accepted w fits) fits stands written there).told;
}
