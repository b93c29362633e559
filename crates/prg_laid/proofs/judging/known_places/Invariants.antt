use Rattle.std.proofs.Common.{◌≡◌, length}
use Rattle.code_rules.specs.Places.{incoming_at}
use Rattle.prg_laid.specs.Whole.{AreKnown}
use Rattle.prg_laid.proofs.judging.known_places.Given as goal

abbrev pub invariant-loop-place : goal.invariant-loop-place
invariant-loop-place l = record {
  many : length l.known ≡ l.place;
  incoming : l.incoming ≡ incoming_at l.code l.place;
  are : AreKnown l.code l.known;
}
