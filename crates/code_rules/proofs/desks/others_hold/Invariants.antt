use Rattle.std.proofs.Common.{◌≡◌, ◌≤◌, ◌+◌, length}
use Rattle.code_rules.specs.Rules.{others_hold}
use Rattle.code_rules.proofs.desks.others_hold.Given as goal

abbrev pub invariant-loop-area : goal.invariant-loop-area
invariant-loop-area l = record {
  same : others_hold l.table l.selected l.number l.rest ≡ others_hold l.table l.selected 1 l.areas;
  small : l.number + length l.rest ≤ 1 + length l.areas;
}

abbrev pub decreases-loop-area : goal.decreases-loop-area
decreases-loop-area l = length l.rest
