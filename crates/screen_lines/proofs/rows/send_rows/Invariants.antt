use Rattle.std.proofs.Common.{◌≡◌, ◌+◌, ◌*◌, ◌≤◌, ◌++◌, take, vec_len, vec_capacity}
use Rattle.screen_lines.specs.Roll.{lines_sent}
use Rattle.screen_lines.proofs.rows.send_rows.Given as goal

abbrev pub invariant-loop-row : goal.invariant-loop-row
invariant-loop-row l =
    (l.sent.items ≡ l.initial.sent.items ++ lines_sent (take l.row-index l.rows))
    × (vec_len l.sent ≤ vec_len l.initial.sent + 81 * l.row-index)
    × (vec_capacity l.initial.sent ≤ vec_capacity l.sent)
