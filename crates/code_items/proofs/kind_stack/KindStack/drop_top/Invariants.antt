use Rattle.std.proofs.Common.{◌≡◌, drop}
use Rattle.std.specs.Prelude.{reverse}
use Rattle.code_items.proofs.kind_stack.KindStack.drop_top.Given as goal

abbrev pub invariant-loop : goal.invariant-loop
invariant-loop l = reverse l.self-inside.kinds.items ≡ drop l.counter (reverse l.initial.self-inside.kinds.items)
