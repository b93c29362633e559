use Rattle.std.proofs.Common.{◌≡◌, ◌-◌, ◌^◌, ◌≤◌, ◌⊎◌}
use Rattle.fixed_num.proofs.text.digit_count.Given as goal

abbrev pub invariant-loop-count : goal.invariant-loop-count
invariant-loop-count l = (1 ≤ l.count) × (l.count ≤ 19) × ((l.count ≡ 1) ⊎ (10 ^ (l.count - 1) ≤ l.number))

abbrev pub decreases-loop-count : goal.decreases-loop-count
decreases-loop-count l = 19 - l.count
