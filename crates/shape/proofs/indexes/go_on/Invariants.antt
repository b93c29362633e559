use Rattle.std.proofs.Common.{◌≡◌, [], take, drop}
use Rattle.shape.specs.Indexes.{indexes_go_on}
use Rattle.shape.proofs.indexes.go_on.Given as goal

abbrev pub invariant-loop-i : goal.invariant-loop-i
invariant-loop-i l = indexes_go_on l.tables (take l.i l.indexes) (drop l.i l.indexes)
    ≡ indexes_go_on l.tables [] l.indexes
