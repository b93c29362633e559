use Rattle.std.proofs.Common.{◌≡◌, ◌+◌, ◌-◌, ◌≤◌, length}
use Rattle.std.specs.Prelude.{Option}
use Rattle.calendar.specs.declared.day.DayParts.{DayParts}
use Rattle.operating.specs.Answers.{AnswersKept}
use Rattle.operating.specs.Talks.{Talked}
use Rattle.work_area.specs.Areas.{StoreState}
use Rattle.operating.proofs.talking.take_turns.Given as goal

abbrev pub invariant-loop-turned : goal.invariant-loop-turned
invariant-loop-turned g l = record {
  talked : (store : StoreState) (today : Option DayParts)
      → Talked l.fn.verified store today (g.J.Journal.holds l.fn.journal) 0 l.fn.banks
      → Talked l.fn.verified store today (g.J.Journal.holds l.journal) l.steps l.banks;
  within : l.steps ≤ l.budget;
  few : l.used ≤ l.most;
  counted : l.used ≡ length (g.J.Journal.holds l.journal);
  kept : AnswersKept (g.O.Operator.answered l.fn.operator) (g.O.Operator.answered l.operator)
      (g.J.Journal.holds l.fn.journal) (g.J.Journal.holds l.journal);
  unfailed : g.J.Journal.failed l.journal ≡ g.J.Journal.failed l.fn.journal;
  cause : g.O.Operator.failure l.operator ≡ g.O.Operator.failure l.fn.operator;
}

abbrev pub decreases-loop-turned : goal.decreases-loop-turned
decreases-loop-turned g l = (l.budget - l.steps) + (l.most - l.used)
