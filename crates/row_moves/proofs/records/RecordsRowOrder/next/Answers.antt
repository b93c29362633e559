use Rattle.row_moves.proofs.records.RecordsRowOrder.next.Goals as goal

pub returns-then-forward-clause-found : goal.returns-then-forward-clause-found
returns-then-forward-clause-found c = rw c.if-forward.true c.record_after.ensures

pub returns-else-forward-clause-found : goal.returns-else-forward-clause-found
returns-else-forward-clause-found c = rw c.if-forward.false c.record_before.ensures
