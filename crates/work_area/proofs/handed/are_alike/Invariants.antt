use Rattle.std.proofs.Common.{ℕ, ◌<◌, get_or}
use Rattle.dbf_file.specs.declared.field.Field.{Field}
use Rattle.work_area.specs.Making.{IsAlike}
use Rattle.work_area.proofs.handed.are_alike.Given as goal

abbrev pub invariant-loop-i : goal.invariant-loop-i
invariant-loop-i l = (k : ℕ) (d : Field) → k < l.i → IsAlike (get_or l.fields k d) (get_or l.others k d)
