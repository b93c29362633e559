use Rattle.std.proofs.Common.{◌≡◌, ◌≤◌, ◌++◌, [], drop}
use Rattle.prg_parser.specs.Listing.{left_open, line_faults}
use Rattle.prg_parser.proofs.listing.list_faults.Given as goal

abbrev pub invariant-loop-mark : goal.invariant-loop-mark
invariant-loop-mark l = record {
  deeper : l.deeper ≤ l.mark-index;
  faults : l.faults.items ++ line_faults l.parts.items l.deeper (drop l.mark-index l.marks) ≡ line_faults [] 0 l.marks;
  unended : l.unended.items ++ left_open l.parts.items l.deeper (drop l.mark-index l.marks) ≡ left_open [] 0 l.marks;
}
