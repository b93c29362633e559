use Rattle.save_rules.proofs.ApartLemmas.{ApartBelow}
use Rattle.save_rules.proofs.recorded.are_different.Given as goal

abbrev pub invariant-loop-place : goal.invariant-loop-place
invariant-loop-place l = ApartBelow l.place l.names
