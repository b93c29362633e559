use Rattle.std.proofs.Common.{◌≡◌, ◌≤◌, ◌+◌, ◌*◌, map, length}
use Rattle.code_rules.specs.Places.{block_from}
use Rattle.code_rules.proofs.blocks.filter_at.Given as goal

abbrev pub invariant-loop-filter : goal.invariant-loop-filter
invariant-loop-filter l = record {
  same : block_from l.number l.first (map (λ f. f.length) l.rest) l.place
      ≡ block_from l.fn.from.number l.fn.from.first (map (λ f. f.length) l.filters) l.place;
  number : l.number + length l.rest ≤ 320;
  first : l.first + 65536 * length l.rest ≤ 20971520;
}

abbrev pub decreases-loop-filter : goal.decreases-loop-filter
decreases-loop-filter l = length l.rest
