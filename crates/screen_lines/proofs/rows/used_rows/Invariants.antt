use Rattle.std.proofs.Common.{◌≡◌, ◌+◌, ◌≤◌, length, take}
use Rattle.std.specs.List.{suffix_len}
use Rattle.screen_lines.specs.Roll.{is_blank_row}
use Rattle.screen_lines.proofs.rows.used_rows.Given as goal

abbrev pub invariant-loop-used : goal.invariant-loop-used
invariant-loop-used l = (l.used ≤ length l.rows)
    × (l.used + suffix_len is_blank_row l.rows ≡ length l.rows + suffix_len is_blank_row (take l.used l.rows))

abbrev pub decreases-loop-used : goal.decreases-loop-used
decreases-loop-used l = l.used
