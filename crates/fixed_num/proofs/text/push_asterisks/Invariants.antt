use Rattle.std.proofs.Common.{◌≡◌, replicate}
use Rattle.fixed_num.proofs.text.push_asterisks.Given as goal

abbrev pub invariant-loop : goal.invariant-loop
invariant-loop l = l.text.items ≡ replicate l.counter 42
