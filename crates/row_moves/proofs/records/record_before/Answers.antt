use Rattle.std.proofs.Common.{sym, ◌∙◌}
use Rattle.row_moves.proofs.RecordOrder.{record_below}
use Rattle.row_moves.proofs.records.record_before.Goals as goal

pub returns : goal.returns
returns c = rw (c.min.ensures, c.saturating_sub.ensures) at c.record_at.ensures
    ∙ sym (record_below c.args.count c.args.number)
