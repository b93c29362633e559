use Rattle.text_lines.proofs.Joining.{short_join, ended_join, ended_line}
use Rattle.text_lines.proofs.laws.texts_join_at_line_ends.Goals as goal

pub returns-clause-lines : goal.returns-clause-lines
returns-clause-lines c = short_join

pub returns-clause-ended : goal.returns-clause-ended
returns-clause-ended c = ended_join

pub returns-clause-line : goal.returns-clause-line
returns-clause-line c = ended_line
