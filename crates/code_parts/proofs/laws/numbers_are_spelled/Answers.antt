use Rattle.code_parts.proofs.Numbers.{two_spells, four_spells}
use Rattle.code_parts.proofs.laws.numbers_are_spelled.Goals as goal

pub returns : goal.returns
returns c = record { two = two_spells; four = four_spells }
