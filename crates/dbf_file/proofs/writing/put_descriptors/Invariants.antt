use Rattle.std.proofs.Common.{◌≡◌, ◌++◌, take}
use Rattle.dbf_file.specs.Descriptors.{descriptors_text}
use Rattle.dbf_file.proofs.writing.put_descriptors.Given as goal

abbrev pub invariant-loop-field : goal.invariant-loop-field
invariant-loop-field l = l.out.items ≡ l.fn.out.items ++ descriptors_text (take l.field-index l.fields)
