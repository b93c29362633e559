use Rattle.std.proofs.Common.{refl}
use Rattle.screen_lines.specs.Roll.{blank_screen_row}
use Rattle.screen_lines.proofs.rows.blank_row.Goals as goal

pub returns : goal.returns
unfolding blank_screen_row
returns c = refl
