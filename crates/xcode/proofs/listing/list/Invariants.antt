use Rattle.std.proofs.Common.{◌≡◌, ◌++◌, drop}
use Rattle.xcode.specs.Listing.{lines_from}
use Rattle.xcode.proofs.listing.list.Given as goal

abbrev pub invariant-loop-place : goal.invariant-loop-place
invariant-loop-place l = l.out.items ++ lines_from l.place (drop l.place l.instr-items) ≡ lines_from 0 l.instr-items
