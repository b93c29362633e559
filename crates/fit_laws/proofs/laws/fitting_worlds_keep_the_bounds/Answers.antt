use Rattle.fit_laws.proofs.Runs.{stack_within}
use Rattle.fit_laws.proofs.laws.fitting_worlds_keep_the_bounds.Goals as goal

pub returns : goal.returns
returns c = record { stack = stack_within; returns = λ code w f. f.shape.calls }
