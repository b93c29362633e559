-- By the list of all functions.
use Rattle.xvalue.proofs.Numbers.{agree}
use Rattle.xvalue.proofs.laws.functions_have_their_numbers.Goals as goal

pub returns : goal.returns
returns c = agree
