use Rattle.expr_laws.proofs.Worlds.{left_anywhere}
use Rattle.expr_laws.proofs.laws.expressions_leave_their_values_anywhere.Goals as goal

pub returns : goal.returns
returns c = record {
  world = λ code s w e kind constants block way stands written grown there.
      (left_anywhere code c.results_have_their_kind.ensures
      (c.faultless_instructions_are_clear.ensures.faultless code) s w e kind constants block way stands written
      grown there).world;
  steps = λ code s w e kind constants block way stands written grown there.
      (left_anywhere code c.results_have_their_kind.ensures
      (c.faultless_instructions_are_clear.ensures.faultless code) s w e kind constants block way stands written
      grown there).cost;
  kind = λ code s w e kind constants block way stands written grown there.
      (left_anywhere code c.results_have_their_kind.ensures
      (c.faultless_instructions_are_clear.ensures.faultless code) s w e kind constants block way stands written
      grown there).told;
}
