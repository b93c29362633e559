use Rattle.std.proofs.Common.{◌≡◌, true}
use Rattle.std.specs.List.{All}
use Rattle.waiting_fields.specs.Reads.{shows_at}
use Rattle.waiting_fields.proofs.reads.shown_before.Given as goal

abbrev pub invariant-loop-place : goal.invariant-loop-place
invariant-loop-place l = All (λ place. shows_at l.code place ≡ true) l.shows.items
