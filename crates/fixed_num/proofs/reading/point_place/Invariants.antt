use Rattle.std.proofs.Common.{◌≡◌, ◌++◌, take, drop}
use Rattle.fixed_num.specs.Reading.{before_point, after_point}
use Rattle.fixed_num.proofs.reading.point_place.Given as goal

abbrev pub invariant-loop-place : goal.invariant-loop-place
invariant-loop-place l =
    (take l.place l.text ++ before_point (drop l.place l.text) ≡ before_point l.text)
    × (after_point (drop l.place l.text) ≡ after_point l.text)
