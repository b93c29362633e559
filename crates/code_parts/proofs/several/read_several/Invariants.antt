use Rattle.std.proofs.Common.{◌≡◌, ◌-◌}
use Rattle.code_parts.specs.Reading.{several, in_list}
use Rattle.code_parts.proofs.Loops.{with_front}
use Rattle.code_parts.proofs.several.read_several.Given as goal

abbrev pub invariant-loop : goal.invariant-loop
invariant-loop g l = with_front (in_list l.things) (several (g.R.Reads.at l.reader) (l.count - l.counter) l.rest)
    ≡ several (g.R.Reads.at l.reader) l.count l.bytes
