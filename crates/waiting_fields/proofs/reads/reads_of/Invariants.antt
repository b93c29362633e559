use Rattle.std.proofs.Common.{◌≡◌, ◌<◌, ℕ, true}
use Rattle.std.specs.List.{All}
use Rattle.waiting_fields.specs.Reads.{takes_at, IsReadOfCode, IsTaken}
use Rattle.waiting_fields.proofs.reads.reads_of.Given as goal

abbrev pub invariant-loop-place : goal.invariant-loop-place
invariant-loop-place l = record {
  reads : All (IsReadOfCode l.instrs) l.reads.items;
  all : (place : ℕ) → place < l.place → takes_at l.instrs place ≡ true → IsTaken l.reads.items place;
}
