use Rattle.std.proofs.Common.{◌≡◌, ◌+◌, ◌++◌, take, drop, map}
use Rattle.screen_lines.specs.Roll.{shown_byte}
use Rattle.screen_lines.proofs.rows.show_in_row.Given as goal

abbrev pub invariant-loop-offset : goal.invariant-loop-offset
invariant-loop-offset l =
    l.row ≡ take l.column l.initial.row ++ map shown_byte (take l.offset l.byte-items) ++ drop (l.column + l.offset)
    l.initial.row
