use Rattle.std.proofs.Common.{codes}
use Rattle.command_words.proofs.operate_words.operator.Goals as goal

pub returns : goal.returns
returns c = c.talker.ensures (codes "operate") (c.in_ok-saver.ensures (codes "operate") c.in_ok-run.ensures)
