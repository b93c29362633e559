use Rattle.run_laws.proofs.Clear.{clear_from, faultless_from}
use Rattle.run_laws.proofs.laws.faultless_instructions_are_clear.Goals as goal

pub returns : goal.returns
returns c = record { clear = clear_from; faultless = faultless_from }
