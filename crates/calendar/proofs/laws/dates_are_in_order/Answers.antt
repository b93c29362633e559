use Rattle.calendar.proofs.CalendarLemmas.{in_order}
use Rattle.calendar.proofs.laws.dates_are_in_order.Goals as goal

pub returns : goal.returns
returns c a b h k = in_order a b h k
