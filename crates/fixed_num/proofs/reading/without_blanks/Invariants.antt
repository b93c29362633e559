use Rattle.std.proofs.Common.{◌≡◌, ◌≤◌, length}
use Rattle.fixed_num.specs.Reading.{without_blanks}
use Rattle.fixed_num.proofs.reading.without_blanks.Given as goal

abbrev pub invariant-loop-text : goal.invariant-loop-text
invariant-loop-text l = (without_blanks l.text ≡ without_blanks l.bytes) × (length l.text ≤ length l.bytes)

abbrev pub decreases-loop-text : goal.decreases-loop-text
decreases-loop-text l = length l.text
