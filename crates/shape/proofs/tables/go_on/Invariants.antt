use Rattle.std.proofs.Common.{◌≡◌, [], take, drop}
use Rattle.shape.specs.Tables.{tables_go_on}
use Rattle.shape.proofs.tables.go_on.Given as goal

abbrev pub invariant-loop-t : goal.invariant-loop-t
invariant-loop-t l = tables_go_on (take l.t l.tables) (drop l.t l.tables) ≡ tables_go_on [] l.tables
