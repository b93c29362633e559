use Rattle.std.proofs.Common.{true, false}
use Rattle.std.proofs.lemmas.Result.{on_ok_weaker}
use Rattle.prg_expr.specs.Tree.{tree_of}
use Rattle.prg_values.specs.Readings.{scoped}
use Rattle.prg_values.specs.Written.{pieces_in, operation_in, kind_in}
use Rattle.prg_expr.proofs.Equations.{tree_binary}
use Rattle.prg_values.proofs.Emitting.{then, both_put, next_put}
use Rattle.prg_values.proofs.pieces.+emit.Goals as goal

pub emit-returns-in_ok-emit-in-Binary-2 : goal.emit-returns-in_ok-emit-in-Binary-2
emit-returns-in_ok-emit-in-Binary-2 t c =
    let s = scoped c.args.scope.now in
    on_ok_weaker c.put_operation.result (λ puts.
    rw (c.in-Binary.is, tree_binary c.in-Binary.operator c.in-Binary.left c.in-Binary.right)
    (both_put (operation_in c.in-Binary.operator (kind_in s (tree_of c.in-Binary.left.value))
    (kind_in s (tree_of c.in-Binary.right.value))) c.in_ok-operation-in-Binary.operation true
    (pieces_in s (tree_of c.in-Binary.left.value)) (pieces_in s (tree_of c.in-Binary.right.value)) c.args.code.now.items
    c.emit-then-operation-2.new.code.items c.put_operation.new.code.items
    (rw (← c.deref-in-Binary.ensures, ← c.deref-in-Binary-2.ensures) c.in_ok-operation-in-Binary.ensures)
    c.if-operation.true
    (then (pieces_in s (tree_of c.in-Binary.right.value)) (pieces_in s (tree_of c.in-Binary.left.value))
    c.args.code.now.items c.emit-then-operation.new.code.items c.emit-then-operation-2.new.code.items
    (rw (← c.deref-then-operation.ensures) c.in_ok-emit-in-Binary.ensures)
    (rw (← c.deref-then-operation-2.ensures) c.in_ok-emit-in-Binary-2.ensures)) puts)) c.put_operation.ensures

pub emit-returns-in_ok-emit-in-Binary-4 : goal.emit-returns-in_ok-emit-in-Binary-4
emit-returns-in_ok-emit-in-Binary-4 t c =
    let s = scoped c.args.scope.now in
    on_ok_weaker c.put_operation-else-operation.result (λ puts.
    rw (c.in-Binary.is, tree_binary c.in-Binary.operator c.in-Binary.left c.in-Binary.right)
    (both_put (operation_in c.in-Binary.operator (kind_in s (tree_of c.in-Binary.left.value))
    (kind_in s (tree_of c.in-Binary.right.value))) c.in_ok-operation-in-Binary.operation false
    (pieces_in s (tree_of c.in-Binary.left.value)) (pieces_in s (tree_of c.in-Binary.right.value)) c.args.code.now.items
    c.emit-else-operation-2.new.code.items c.put_operation-else-operation.new.code.items
    (rw (← c.deref-in-Binary.ensures, ← c.deref-in-Binary-2.ensures) c.in_ok-operation-in-Binary.ensures)
    c.if-operation.false
    (then (pieces_in s (tree_of c.in-Binary.left.value)) (pieces_in s (tree_of c.in-Binary.right.value))
    c.args.code.now.items c.emit-else-operation.new.code.items c.emit-else-operation-2.new.code.items
    (rw (← c.deref-else-operation.ensures) c.in_ok-emit-in-Binary-3.ensures)
    (rw (← c.deref-else-operation-2.ensures) c.in_ok-emit-in-Binary-4.ensures)) puts))
    c.put_operation-else-operation.ensures

pub emit_all-loop-e-preserved : goal.emit_all-loop-e-preserved
emit_all-loop-e-preserved t c =
    let s = scoped c.args.scope.now in
    next_put s c.args.es.now c.loop-e.e-index c.e-item.result c.args.code.now.items c.loop-e.code.items
    c.emit.new.code.items c.loop-e-test.true c.e-item.is c.loop-e.invariant c.in_ok-emit.ensures
