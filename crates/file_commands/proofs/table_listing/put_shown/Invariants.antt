use Rattle.std.proofs.Common.{◌≡◌, ◌++◌, map, take}
use Rattle.screen_lines.specs.Roll.{shown_byte}
use Rattle.file_commands.proofs.table_listing.put_shown.Given as goal

abbrev pub invariant-loop-byte : goal.invariant-loop-byte
invariant-loop-byte l = l.out.items ≡ l.fn.out.items ++ map shown_byte (take l.byte-index l.text)
