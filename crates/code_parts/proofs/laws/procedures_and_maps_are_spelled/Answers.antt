use Rattle.code_parts.proofs.StateLaws.{procedure_spells, map_spells}
use Rattle.code_parts.proofs.laws.procedures_and_maps_are_spelled.Goals as goal

pub returns : goal.returns
returns c = record { procedures = procedure_spells; maps = map_spells }
