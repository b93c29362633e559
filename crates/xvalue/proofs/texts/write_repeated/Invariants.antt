use Rattle.std.proofs.Common.{◌≡◌}
use Rattle.xvalue.specs.Texts.{fitting, repeated}
use Rattle.xvalue.proofs.texts.write_repeated.Given as goal

abbrev pub invariant-loop : goal.invariant-loop
invariant-loop l = l.text.items ≡ fitting (repeated l.counter l.bytes)
