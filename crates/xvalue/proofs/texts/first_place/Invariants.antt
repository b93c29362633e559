use Rattle.std.proofs.Common.{◌≡◌, drop}
use Rattle.xvalue.specs.Texts.{first_place, further}
use Rattle.xvalue.proofs.texts.first_place.Given as goal

abbrev pub invariant-loop-place : goal.invariant-loop-place
invariant-loop-place l = further l.place (first_place l.part (drop l.place l.bytes)) ≡ first_place l.part l.bytes
