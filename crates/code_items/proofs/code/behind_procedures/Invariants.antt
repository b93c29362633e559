use Rattle.std.proofs.Common.{◌≡◌, map, length}
use Rattle.code_items.specs.Legal.{left_behind}
use Rattle.code_items.proofs.code.behind_procedures.Given as goal

abbrev pub invariant-loop-procedure : goal.invariant-loop-procedure
invariant-loop-procedure l = left_behind l.left (map (λ p. p.length) l.rest)
    ≡ left_behind l.places (map (λ p. p.length) l.procedures)

abbrev pub decreases-loop-procedure : goal.decreases-loop-procedure
decreases-loop-procedure l = length l.rest
