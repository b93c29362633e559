use Rattle.code_parts.proofs.ConstantLaws.{constant_spells}
use Rattle.code_parts.proofs.StateLaws.{filter_spells}
use Rattle.code_parts.proofs.laws.constants_and_filters_are_spelled.Goals as goal

pub returns : goal.returns
returns c = record { constants = constant_spells; filters = filter_spells }
