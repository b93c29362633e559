use Rattle.std.proofs.Common.{◌≡◌, ◌++◌}
use Rattle.save_steps.specs.Steps.{make_steps}
use Rattle.save_steps.proofs.order.push_makes.Given as goal

abbrev pub invariant-loop-k : goal.invariant-loop-k
invariant-loop-k l = l.steps.items ≡ l.initial.steps.items ++ make_steps l.k
