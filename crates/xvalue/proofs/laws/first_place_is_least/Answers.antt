use Rattle.xvalue.proofs.OrderLemmas.{first_place-there, first_place-least}
use Rattle.xvalue.proofs.laws.first_place_is_least.Goals as goal

pub returns-clause-there : goal.returns-clause-there
returns-clause-there c part cs n e = first_place-there part cs n e

pub returns-clause-least : goal.returns-clause-least
returns-clause-least c part cs n k e less = first_place-least part cs n k e less
