use Rattle.code_parts.proofs.ShapeLaws.{table_spells, index_spells, list_spells}
use Rattle.code_parts.proofs.laws.declarations_are_spelled.Goals as goal

pub returns : goal.returns
returns c = record { tables = table_spells; indexes = index_spells; lists = list_spells }
