use Rattle.std.proofs.Common.{◌≡◌, ◌+◌, ◌-◌, ◌⊎◌, ℕ, true, length}
use Rattle.std.specs.List.{All, Contains}
use Rattle.waiting_fields.specs.Reads.{takes_at}
use Rattle.waiting_fields.proofs.reads.takes_from.Given as goal

abbrev pub invariant-loop-next : goal.invariant-loop-next
invariant-loop-next l = record {
  takes : All (λ place. takes_at l.code place ≡ true) l.takes.items;
  goes_on : (place : ℕ) → Contains l.takes.items place → takes_at l.code (place + 3) ≡ true
      → Contains l.takes.items (place + 3) ⊎ (place + 3 ≡ l.next);
  first : Contains l.takes.items l.first ⊎ (l.next ≡ l.first);
}

abbrev pub decreases-loop-next : goal.decreases-loop-next
decreases-loop-next l = length l.code - l.next
