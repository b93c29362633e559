use Rattle.std.proofs.Common.{◌≡◌, map, take}
use Rattle.compile_commands.specs.Listing.{line_fault}
use Rattle.compile_commands.proofs.listing.of_lines.Given as goal

abbrev pub invariant-loop-fault : goal.invariant-loop-fault
invariant-loop-fault l = l.own.items ≡ map (line_fault l.fn.file) (take l.fault-index l.faults)
