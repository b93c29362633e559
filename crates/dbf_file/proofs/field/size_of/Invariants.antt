use Rattle.std.proofs.Common.{◌≡◌, ◌+◌, ◌*◌, ◌≤◌, drop}
use Rattle.dbf_file.specs.Fields.{total, widths_of}
use Rattle.dbf_file.proofs.field.size_of.Given as goal

-- the widths so far and those to come; each is below 256
abbrev pub invariant-loop-field : goal.invariant-loop-field
invariant-loop-field l = (l.size + total (widths_of (drop l.field-index l.fields)) ≡ 1 + total (widths_of l.fields))
    × (l.size ≤ 1 + 255 * l.field-index)
