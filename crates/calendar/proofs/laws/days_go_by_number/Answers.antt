use Rattle.calendar.proofs.CalendarLemmas.{days_on-number}
use Rattle.calendar.proofs.laws.days_go_by_number.Goals as goal

pub returns : goal.returns
returns c days parts h = days_on-number days parts h
