use Rattle.std.proofs.Common.{◌≡◌, length}
use Rattle.code_items.specs.Legal.{maps_rise}
use Rattle.code_items.proofs.code.do_maps_rise.Given as goal

abbrev pub invariant-loop-map : goal.invariant-loop-map
invariant-loop-map l = maps_rise l.least l.places l.rest ≡ maps_rise 0 l.places l.maps

abbrev pub decreases-loop-map : goal.decreases-loop-map
decreases-loop-map l = length l.rest
