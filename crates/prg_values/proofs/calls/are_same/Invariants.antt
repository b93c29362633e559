use Rattle.std.proofs.Common.{◌≡◌, length}
use Rattle.code_items.specs.Kinds.{same_kinds}
use Rattle.prg_values.proofs.calls.are_same.Given as goal

abbrev pub invariant-loop-want : goal.invariant-loop-want
invariant-loop-want l = same_kinds l.wants l.rest ≡ same_kinds l.wanted l.kinds

abbrev pub decreases-loop-want : goal.decreases-loop-want
decreases-loop-want l = length l.wants
