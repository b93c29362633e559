use Rattle.std.proofs.Common.{◌≡◌, Some}
use Rattle.std.specs.List.{All}
use Rattle.prg_code.specs.Bindings.{slot_named}
use Rattle.prg_code.proofs.names.Names.is_same.Given as goal

abbrev pub invariant-loop-name : goal.invariant-loop-name
invariant-loop-name l = All (λ p. slot_named l.other p.0.now.items ≡ Some p.1.now.slot) l.yielded
