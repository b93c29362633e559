use Rattle.std.proofs.Common.{◌≡◌, ◌-◌, []}
use Rattle.xcode.specs.Decoding.{items_at}
use Rattle.xcode.proofs.sections.items_of.Given as goal

abbrev pub invariant-loop : goal.invariant-loop
invariant-loop g l = items_at (g.R.Reads.at l.reader) (g.J.Judges.follows l.judge)
    (l.count - l.counter) l.things.items l.rest
    ≡ items_at (g.R.Reads.at l.reader) (g.J.Judges.follows l.judge) l.count [] l.bytes
