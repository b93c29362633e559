use Rattle.std.proofs.Common.{◌≡◌, ◌+◌, ◌≤◌, ◌++◌, length}
use Rattle.fixed_num.specs.Text.{last_digits}
use Rattle.fixed_num.proofs.text.push_digits.Given as goal

abbrev pub invariant-loop-left : goal.invariant-loop-left
invariant-loop-left l =
    (l.left ≤ 19) × (length l.text.items + l.left ≡ length l.initial.text.items + l.count) × (l.count ≤ 19)
    × (length l.initial.text.items + l.count ≤ 24)
    × (l.text.items ++ last_digits l.left l.number ≡ l.initial.text.items ++ last_digits l.count l.number)

abbrev pub decreases-loop-left : goal.decreases-loop-left
decreases-loop-left l = l.left
