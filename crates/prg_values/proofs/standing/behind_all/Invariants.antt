use Rattle.std.proofs.Common.{ℕ, length}
use Rattle.prg_values.specs.Placed.{text, StandAll}
use Rattle.prg_values.proofs.standing.behind_all.Given as goal

-- what is left leads to the whole
abbrev pub invariant-loop-piece : goal.invariant-loop-piece
invariant-loop-piece l = (b : ℕ) → StandAll (text l.f) l.end l.rest b → StandAll (text l.f) l.place l.pieces b

abbrev pub decreases-loop-piece : goal.decreases-loop-piece
decreases-loop-piece l = length l.rest
