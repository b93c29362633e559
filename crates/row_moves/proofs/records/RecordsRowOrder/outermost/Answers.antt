use Rattle.std.proofs.Common.{◌∙◌, sym}
use Rattle.row_moves.proofs.RecordOrder.{first_record, last_record}
use Rattle.row_moves.proofs.records.RecordsRowOrder.outermost.Goals as goal

pub returns-then-forward-clause-found : goal.returns-then-forward-clause-found
returns-then-forward-clause-found c =
    rw c.if-forward.true (rw c.min.ensures at c.record_at.ensures ∙ sym (first_record c.args.self.now.count))

pub returns-else-forward-clause-found : goal.returns-else-forward-clause-found
returns-else-forward-clause-found c =
    rw c.if-forward.false (c.record_at-else-forward.ensures ∙ sym (last_record c.args.self.now.count))
