use Rattle.std.proofs.Common.{◌≡◌, length}
use Rattle.prg_laid.specs.Whole.{slots_differ}
use Rattle.prg_laid.proofs.judging.do_slots_differ.Given as goal

abbrev pub invariant-loop-variable : goal.invariant-loop-variable
invariant-loop-variable l = slots_differ l.rest ≡ slots_differ l.variables

abbrev pub decreases-loop-variable : goal.decreases-loop-variable
decreases-loop-variable l = length l.rest
