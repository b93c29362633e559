use Rattle.screen_lines.proofs.Stepping.{IsWhole-after}
use Rattle.screen_lines.proofs.laws.screen_keeps_its_shape.Goals as goal

pub returns : goal.returns
returns c = IsWhole-after
