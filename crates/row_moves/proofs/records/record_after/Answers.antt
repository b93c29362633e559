use Rattle.std.proofs.Common.{sym, arith}
use Rattle.row_moves.proofs.RecordOrder.{next_there, none_after}
use Rattle.row_moves.proofs.records.record_after.Goals as goal

pub returns-then-number-count : goal.returns-then-number-count
returns-then-number-count c = sym (none_after c.args.count c.args.number (omega arith))

pub returns : goal.returns
returns c = sym (next_there c.args.count c.args.number (omega arith))
