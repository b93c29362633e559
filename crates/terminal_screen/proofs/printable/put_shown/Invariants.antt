use Rattle.std.proofs.Common.{◌≡◌, ◌++◌, take, string_bytes}
use Rattle.std.specs.List.{flat_map}
use Rattle.terminal_screen.specs.Printable.{shown_letter}
use Rattle.terminal_screen.proofs.printable.put_shown.Given as goal

abbrev pub invariant-loop-byte : goal.invariant-loop-byte
invariant-loop-byte l = string_bytes l.out ≡ string_bytes l.initial.out ++ flat_map (shown_letter l.page)
    (take l.byte-index l.bytes)
