use Rattle.std.proofs.Common.{◌≡◌, ◌++◌, take, drop}
use Rattle.calendar.specs.DateTexts.{before_slash, after_slash}
use Rattle.calendar.proofs.calendar.slash_place.Given as goal

abbrev pub invariant-loop-place : goal.invariant-loop-place
invariant-loop-place l =
    (take l.place l.text ++ before_slash (drop l.place l.text) ≡ before_slash l.text)
    × (after_slash (drop l.place l.text) ≡ after_slash l.text)
