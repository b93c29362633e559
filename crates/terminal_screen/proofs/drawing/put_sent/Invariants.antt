use Rattle.std.proofs.Common.{◌≡◌, ◌++◌, drop, true, string_bytes}
use Rattle.terminal_screen.specs.Orders.{rows_scrolled}
use Rattle.terminal_screen.proofs.drawing.put_sent.Given as goal

abbrev pub invariant-loop-byte : goal.invariant-loop-byte
invariant-loop-byte l =
    string_bytes l.out ++ rows_scrolled l.page l.fresh (drop l.byte-index l.sent)
    ≡ string_bytes l.initial.out ++ rows_scrolled l.page true l.sent
