use Rattle.std.proofs.Common.{◌≡◌, ◌≤◌, ◌+◌, ◌*◌, map, length}
use Rattle.code_rules.specs.Places.{block_from}
use Rattle.code_rules.proofs.blocks.procedure_at.Given as goal

abbrev pub invariant-loop-procedure : goal.invariant-loop-procedure
invariant-loop-procedure l = record {
  same : block_from l.number l.first (map (λ p. p.length) l.rest) l.place
      ≡ block_from 0 0 (map (λ p. p.length) l.procedures) l.place;
  number : l.number + length l.rest ≤ 256;
  first : l.first + 65536 * length l.rest ≤ 16777216;
}

abbrev pub decreases-loop-procedure : goal.decreases-loop-procedure
decreases-loop-procedure l = length l.rest
