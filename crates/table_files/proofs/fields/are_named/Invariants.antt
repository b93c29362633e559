use Rattle.std.proofs.Common.{◌≡◌, ℕ, ◌<◌, get_or, map}
use Rattle.std.specs.Char.{to_ascii_lowercase}
use Rattle.dbf_file.specs.declared.field.Field.{Field}
use Rattle.table_files.proofs.fields.are_named.Given as goal

abbrev pub invariant-loop-i : goal.invariant-loop-i
invariant-loop-i l = (k : ℕ) (d : Field) → k < l.i → map to_ascii_lowercase (get_or l.fields k d).name.items
    ≡ map to_ascii_lowercase (get_or l.others k d).name.items
