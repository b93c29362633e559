use Rattle.std.proofs.Common.{◌≡◌, ◌++◌, take}
use Rattle.prg_expr.specs.Tree.{trees_of}
use Rattle.prg_values.specs.Readings.{scoped}
use Rattle.prg_values.specs.Written.{all_pieces}
use Rattle.prg_values.proofs.pieces.+emit.Given as goal

abbrev pub invariant-emit_all-loop-e : goal.invariant-emit_all-loop-e
invariant-emit_all-loop-e l = l.code.items ≡ l.initial.code.items
    ++ all_pieces (scoped l.scope) (trees_of (take l.e-index l.es))
