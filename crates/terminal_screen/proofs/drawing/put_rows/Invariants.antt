use Rattle.std.proofs.Common.{◌≡◌, ◌++◌, string_bytes}
use Rattle.terminal_screen.specs.Orders.{lines_drawn}
use Rattle.terminal_screen.proofs.drawing.put_rows.Given as goal

abbrev pub invariant-loop-left : goal.invariant-loop-left
invariant-loop-left l =
    string_bytes l.out ++ lines_drawn l.drawing l.first l.left
    ≡ string_bytes l.initial.out ++ lines_drawn l.drawing l.first l.lines

abbrev pub decreases-loop-left : goal.decreases-loop-left
decreases-loop-left l = l.left
