use Rattle.std.proofs.Common.{◌≡◌, ◌++◌, drop, false, string_bytes}
use Rattle.terminal_screen.specs.Orders.{cells_shown}
use Rattle.terminal_screen.proofs.drawing.put_cells.Given as goal

abbrev pub invariant-loop-column : goal.invariant-loop-column
invariant-loop-column l =
    string_bytes l.out ++ cells_shown l.page l.fields l.number l.marked l.column (drop l.column l.cells)
    ≡ string_bytes l.initial.out ++ cells_shown l.page l.fields l.number false 0 l.cells
