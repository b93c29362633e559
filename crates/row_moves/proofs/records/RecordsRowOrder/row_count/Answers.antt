use Rattle.std.proofs.Common.{sym}
use Rattle.row_moves.proofs.RecordOrder.{length-records, ascending_records}
use Rattle.row_moves.proofs.records.RecordsRowOrder.row_count.Goals as goal

pub returns-clause-count : goal.returns-clause-count
returns-clause-count c = sym (length-records 1 c.args.self.now.count)

pub returns-clause-ordered : goal.returns-clause-ordered
returns-clause-ordered c = ascending_records 1 c.args.self.now.count
