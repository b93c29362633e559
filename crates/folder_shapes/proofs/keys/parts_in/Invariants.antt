use Rattle.std.proofs.Common.{◌≡◌, ◌++◌, length, option_map}
use Rattle.std.specs.List.{slice_split}
use Rattle.folder_shapes.specs.Keys.{is_plus, said_parts}
use Rattle.folder_shapes.proofs.keys.parts_in.Given as goal

abbrev pub invariant-loop-part : goal.invariant-loop-part
invariant-loop-part l = option_map (λ ps. l.parts.items ++ ps) (said_parts l.fields (slice_split is_plus l.rest))
    ≡ said_parts l.fields (slice_split is_plus l.fn.text)

abbrev pub decreases-loop-part : goal.decreases-loop-part
decreases-loop-part l = length l.rest
