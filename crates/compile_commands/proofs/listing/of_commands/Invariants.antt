use Rattle.std.proofs.Common.{◌≡◌, map, take}
use Rattle.compile_commands.specs.Listing.{command_fault}
use Rattle.compile_commands.proofs.listing.of_commands.Given as goal

abbrev pub invariant-loop-fault : goal.invariant-loop-fault
invariant-loop-fault l = l.found.items ≡ map command_fault (take l.fault-index l.faults)
