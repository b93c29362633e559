use Rattle.std.proofs.Common.{◌≡◌, ◌-◌, ◌*◌, ◌≤◌, length}
use Rattle.dbf_file.specs.Rows.{are_marked}
use Rattle.dbf_file.proofs.reading.are_marked.Given as goal

abbrev pub invariant-loop : goal.invariant-loop
invariant-loop l = ((l.count - l.counter) * l.size ≤ length l.rest)
    × (are_marked l.size (l.count - l.counter) l.rest ≡ are_marked l.size l.count l.bytes)
