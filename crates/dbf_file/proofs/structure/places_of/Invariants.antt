use Rattle.std.proofs.Common.{◌≡◌, ◌+◌, ◌*◌, ◌≤◌, ◌++◌, drop}
use Rattle.dbf_file.specs.Fields.{places_from, widths_of}
use Rattle.dbf_file.proofs.structure.places_of.Given as goal

-- the places so far and those to come; each width is below 256
abbrev pub invariant-loop-field : goal.invariant-loop-field
invariant-loop-field l =
    (l.places.items ++ places_from l.place (widths_of (drop l.field-index l.fields))
    ≡ places_from 1 (widths_of l.fields)) × (l.place ≤ 1 + 255 * l.field-index)
