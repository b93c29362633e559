use Rattle.std.proofs.Common.{◌≡◌, ◌-◌}
use Rattle.save_papers.specs.Papers.{entry_views}
use Rattle.save_papers.specs.Reading.{paper_entries_at}
use Rattle.save_papers.proofs.Loop.{with_front}
use Rattle.save_papers.proofs.reading.entries_of.Given as goal

abbrev pub invariant-loop : goal.invariant-loop
invariant-loop l = with_front (entry_views l.entries.items) (paper_entries_at (l.count - l.counter) l.rest)
    ≡ paper_entries_at l.count l.bytes
