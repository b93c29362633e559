use Rattle.std.proofs.Common.{◌≡◌, map, take}
use Rattle.run_commands.proofs.rehearsing.index_names.Given as goal

abbrev pub invariant-loop-index : goal.invariant-loop-index
invariant-loop-index l = l.names.items ≡ map (λ x. x.name) (take l.index-index l.indexes)
