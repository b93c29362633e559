use Rattle.std.proofs.Common.{◌≡◌, ◌++◌, take}
use Rattle.prg_parser.specs.Listing.{unended}
use Rattle.prg_parser.proofs.listing.list_unended.Given as goal

abbrev pub invariant-loop-part : goal.invariant-loop-part
invariant-loop-part l = l.faults.items ≡ l.fn.faults.items ++ unended (take l.part-index l.parts)
