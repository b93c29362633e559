use Rattle.std.proofs.Common.{◌≡◌, ◌+◌, ◌≤◌, length, take}
use Rattle.std.specs.List.{suffix_len}
use Rattle.screen_lines.specs.Roll.{is_blank}
use Rattle.screen_lines.proofs.rows.used_columns.Given as goal

abbrev pub invariant-loop-used : goal.invariant-loop-used
invariant-loop-used l = (l.used ≤ length l.row)
    × (l.used + suffix_len is_blank l.row ≡ length l.row + suffix_len is_blank (take l.used l.row))

abbrev pub decreases-loop-used : goal.decreases-loop-used
decreases-loop-used l = l.used
