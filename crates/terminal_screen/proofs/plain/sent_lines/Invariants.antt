use Rattle.std.proofs.Common.{◌≡◌, ◌++◌, drop, false, string_bytes}
use Rattle.terminal_screen.specs.Orders.{lines_shown}
use Rattle.terminal_screen.proofs.plain.sent_lines.Given as goal

abbrev pub invariant-loop-byte : goal.invariant-loop-byte
invariant-loop-byte l = string_bytes l.out ++ lines_shown l.page l.begun (drop l.byte-index l.sent)
    ≡ lines_shown l.page false l.sent
