use Rattle.std.proofs.Common.{◌≡◌, false, take}
use Rattle.shape_files.specs.Shapes.{is_table_named}
use Rattle.shape_files.proofs.declarations.table_of.Given as goal

abbrev pub invariant-loop-t : goal.invariant-loop-t
invariant-loop-t l = is_table_named (take l.t l.tables) l.name ≡ false
