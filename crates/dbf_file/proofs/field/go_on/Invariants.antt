use Rattle.std.proofs.Common.{◌≡◌, [], take, drop}
use Rattle.dbf_file.specs.Fields.{fields_go_on}
use Rattle.dbf_file.proofs.field.go_on.Given as goal

abbrev pub invariant-loop-f : goal.invariant-loop-f
invariant-loop-f l = fields_go_on (take l.f l.fields) (drop l.f l.fields) ≡ fields_go_on [] l.fields
