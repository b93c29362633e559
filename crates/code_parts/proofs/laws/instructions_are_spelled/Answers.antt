use Rattle.code_parts.proofs.InstrLaws.{instr_spells}
use Rattle.code_parts.proofs.laws.instructions_are_spelled.Goals as goal

pub returns : goal.returns
returns c = instr_spells c.functions_have_their_numbers.ensures
