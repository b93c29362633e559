use Rattle.calendar.proofs.CalendarLemmas.{number-injective, sooner-lt}
use Rattle.calendar.proofs.laws.days_are_their_numbers.Goals as goal

pub returns-clause-same : goal.returns-clause-same
returns-clause-same c p q h k e = number-injective p q h k e

pub returns-clause-sooner : goal.returns-clause-sooner
returns-clause-sooner c p q h k = sooner-lt p q h k
