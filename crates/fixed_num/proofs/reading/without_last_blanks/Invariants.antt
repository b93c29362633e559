use Rattle.std.proofs.Common.{◌≡◌, ◌≤◌, length, reverse}
use Rattle.fixed_num.specs.Reading.{without_blanks}
use Rattle.fixed_num.proofs.reading.without_last_blanks.Given as goal

abbrev pub invariant-loop-text : goal.invariant-loop-text
invariant-loop-text l =
    (without_blanks (reverse l.text) ≡ without_blanks (reverse l.bytes)) × (length l.text ≤ length l.bytes)

abbrev pub decreases-loop-text : goal.decreases-loop-text
decreases-loop-text l = length l.text
