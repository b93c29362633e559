use Rattle.std.proofs.Common.{◌≡◌, ◌++◌}
use Rattle.save_steps.specs.Steps.{unmakes}
use Rattle.save_steps.proofs.order.push_unmakes.Given as goal

abbrev pub invariant-loop-k : goal.invariant-loop-k
invariant-loop-k l = l.steps.items ≡ l.initial.steps.items ++ unmakes l.k
