use Rattle.prg_line.proofs.CommandWords.{begins, no_note}
use Rattle.prg_line.proofs.verb.one_command.Goals as goal

pub returns-clause-begins : goal.returns-clause-begins
returns-clause-begins c = begins

pub returns-clause-no_note : goal.returns-clause-no_note
returns-clause-no_note c = no_note
