use Rattle.std.proofs.Common.{◌≡◌, ◌+◌, ◌≤◌, length, drop}
use Rattle.screen_lines.specs.Roll.{text_printed}
use Rattle.screen_lines.specs.Kept.{roll_of, IsKeptDisplay, cells_free}
use Rattle.screen_lines.proofs.display.Display.print.Given as goal

abbrev pub invariant-loop-byte : goal.invariant-loop-byte
invariant-loop-byte l =
    IsKeptDisplay l.self × (length l.text ≤ cells_free l.self + l.byte-index)
    × (text_printed (drop l.byte-index l.text) (roll_of l.self) ≡ text_printed l.text (roll_of l.initial.self))
