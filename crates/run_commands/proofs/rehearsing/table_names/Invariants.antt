use Rattle.std.proofs.Common.{◌≡◌, map, take}
use Rattle.run_commands.proofs.rehearsing.table_names.Given as goal

abbrev pub invariant-loop-table : goal.invariant-loop-table
invariant-loop-table l = l.names.items ≡ map (λ x. x.name) (take l.table-index l.tables)
