use Rattle.std.proofs.Common.{FitsSigned, w64, ◌∙◌}
use Rattle.std.proofs.lemmas.Result.{IfOk-weaker}
use Rattle.jiff.proofs.SpanFacts.{date_add-days, can_add-days}
use Rattle.std.proofs.lemmas.Int.{to_z-of_z}
use Rattle.calendar.proofs.calendar.date_after.Goals as goal

pub returns-clause-value : goal.returns-clause-value
returns-clause-value c =
    let fits : FitsSigned w64 c.args.days = c.ranges.days in
    let only = simp to_z-of_z at c.days.ensures in
    IfOk-weaker c.checked_add.result _ _ (λ d e. e ∙ date_add-days c.args.date c.args.days c.days.result only)
    c.checked_add.ensures.value

pub returns-clause-succeeds : goal.returns-clause-succeeds
returns-clause-succeeds c =
    let fits : FitsSigned w64 c.args.days = c.ranges.days in
    let only = simp to_z-of_z at c.days.ensures in
    let can = can_add-days c.args.date c.args.days c.days.result only in
    let s = c.checked_add.ensures.succeeds in
    (λ ok. can.0 (s.0 ok), λ day. s.1 (can.1 day))
