use Rattle.std.proofs.Common.{◌≡◌, map, length}
use Rattle.code_items.specs.Legal.{left_behind}
use Rattle.code_items.proofs.code.behind_filters.Given as goal

abbrev pub invariant-loop-filter : goal.invariant-loop-filter
invariant-loop-filter l = left_behind l.left (map (λ f. f.length) l.rest)
    ≡ left_behind l.places (map (λ f. f.length) l.filters)

abbrev pub decreases-loop-filter : goal.decreases-loop-filter
decreases-loop-filter l = length l.rest
