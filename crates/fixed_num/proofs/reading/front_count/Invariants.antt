use Rattle.std.proofs.Common.{◌≡◌, ◌++◌, take, drop}
use Rattle.fixed_num.specs.Reading.{digits_in_front, behind_digits}
use Rattle.fixed_num.proofs.reading.front_count.Given as goal

abbrev pub invariant-loop-place : goal.invariant-loop-place
invariant-loop-place l =
    (take l.place l.text ++ digits_in_front (drop l.place l.text) ≡ digits_in_front l.text)
    × (behind_digits (drop l.place l.text) ≡ behind_digits l.text)
