use Rattle.std.proofs.Common.{◌≡◌, take}
use Rattle.std.specs.Prelude.{map}
use Rattle.waiting_fields.specs.Reads.{before}
use Rattle.waiting_fields.proofs.reads.are_matched.Given as goal

abbrev pub invariant-loop-number : goal.invariant-loop-number
invariant-loop-number l = map (before l.code) (take l.number l.shows) ≡ map (before l.code) (take l.number l.takes)
