use Rattle.std.proofs.Common.{◌≡◌, ◌<◌, get_or, length, ℕ}
use Rattle.terminal_screen.specs.Orders.{cell_under}
use Rattle.terminal_screen.proofs.fields.answered.Given as goal

abbrev pub invariant-loop-column : goal.invariant-loop-column
invariant-loop-column l =
    (length l.over ≡ 80) × ((column : ℕ) → column < l.column
    → get_or l.over column 32 ≡ cell_under l.field l.answer column (get_or l.row column 32))
