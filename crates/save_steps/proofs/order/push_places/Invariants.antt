use Rattle.std.proofs.Common.{◌≡◌, ◌++◌}
use Rattle.save_steps.specs.Steps.{places}
use Rattle.save_steps.proofs.order.push_places.Given as goal

abbrev pub invariant-loop-k : goal.invariant-loop-k
invariant-loop-k l = l.steps.items ≡ l.initial.steps.items ++ places l.k
