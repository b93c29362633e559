use Rattle.std.proofs.Common.{◌≡◌}
use Rattle.operator_desk.specs.Asked.{places_known}
use Rattle.operator_desk.proofs.gets.Gets.learn.Given as goal

abbrev pub invariant-loop-number : goal.invariant-loop-number
invariant-loop-number l = places_known l.self ≡ places_known l.initial.self
