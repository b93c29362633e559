use Rattle.std.proofs.Common.{◌≡◌, map, take}
use Rattle.shape_files.specs.Shapes.{in_capitals, plain_field}
use Rattle.shape_files.proofs.tables.capital_fields.Given as goal

abbrev pub invariant-loop-field : goal.invariant-loop-field
invariant-loop-field l = map plain_field l.copies.items ≡ map in_capitals (take l.field-index l.fields)
