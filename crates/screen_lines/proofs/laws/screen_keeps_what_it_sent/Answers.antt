use Rattle.screen_lines.proofs.Stepping.{KeepsSent-after}
use Rattle.screen_lines.proofs.laws.screen_keeps_what_it_sent.Goals as goal

pub returns : goal.returns
returns c = KeepsSent-after
