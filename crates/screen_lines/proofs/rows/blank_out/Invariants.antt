use Rattle.std.proofs.Common.{◌≡◌, take}
use Rattle.std.specs.Prelude.{replicate}
use Rattle.screen_lines.specs.Roll.{blank_screen_row}
use Rattle.screen_lines.proofs.rows.blank_out.Given as goal

abbrev pub invariant-loop-row : goal.invariant-loop-row
invariant-loop-row l = take l.row-index l.rows ≡ replicate l.row-index blank_screen_row
