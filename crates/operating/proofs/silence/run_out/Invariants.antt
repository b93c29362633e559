use Rattle.std.proofs.Common.{◌≡◌, ◌≤◌, ℕ, List, Option}
use Rattle.calendar.specs.declared.day.DayParts.{DayParts}
use Rattle.operating.specs.Pieces.{QuietTurned}
use Rattle.operating.specs.Talks.{Talked}
use Rattle.operating.proofs.PieceLemmas.{left_behind, steps_of}
use Rattle.work_area.specs.Areas.{StoreState}
use Rattle.operating.proofs.silence.run_out.Given as goal

abbrev pub invariant-loop-turn : goal.invariant-loop-turn
invariant-loop-turn g l = record {
  turned : (store : StoreState) (today : Option DayParts) (bytes : List ℕ)
      → Talked l.fn.verified store today bytes l.fn.steps l.fn.banks
      → QuietTurned l.fn.verified store today bytes l.fn.budget l.turn l.banks;
  within : steps_of l.turn ≤ l.fn.budget;
  untold : g.O.Operator.answered l.operator ≡ g.O.Operator.answered l.fn.operator;
  cause : g.O.Operator.failure l.operator ≡ g.O.Operator.failure l.fn.operator;
}

abbrev pub decreases-loop-turn : goal.decreases-loop-turn
decreases-loop-turn g l = left_behind l.fn.budget l.turn
