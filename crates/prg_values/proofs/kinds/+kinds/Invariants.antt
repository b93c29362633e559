use Rattle.std.proofs.Common.{◌≡◌, Some, take}
use Rattle.prg_expr.specs.Tree.{trees_of}
use Rattle.prg_values.specs.Readings.{scoped}
use Rattle.prg_values.specs.Written.{kinds_in}
use Rattle.prg_values.proofs.kinds.+kinds.Given as goal

abbrev pub invariant-kinds_of-loop-e : goal.invariant-kinds_of-loop-e
invariant-kinds_of-loop-e l = kinds_in (scoped l.scope) (trees_of (take l.e-index l.es)) ≡ Some l.kinds
