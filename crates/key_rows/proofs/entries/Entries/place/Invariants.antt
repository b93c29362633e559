use Rattle.std.proofs.Common.{◌≤◌, ◌-◌, length}
use Rattle.key_lists.specs.Rising.{place_of}
use Rattle.key_rows.proofs.entries.Entries.place.Given as goal

-- the place stands between the two bounds
abbrev pub invariant-loop-low : goal.invariant-loop-low
invariant-loop-low l = record {
  low : l.low ≤ place_of (l.key, l.number) l.self.items;
  high : place_of (l.key, l.number) l.self.items ≤ l.high;
  within : l.high ≤ length l.self.items;
}

abbrev pub decreases-loop-low : goal.decreases-loop-low
decreases-loop-low l = l.high - l.low
