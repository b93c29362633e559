use Rattle.std.proofs.Common.{◌≡◌, ◌≤◌, ◌-◌, []}
use Rattle.dbf_file.specs.Descriptors.{fields_from}
use Rattle.dbf_file.proofs.descriptors.fields_of.Given as goal

abbrev pub invariant-loop : goal.invariant-loop
invariant-loop l = (l.counter ≤ 129)
    × (fields_from (129 - l.counter) l.fields.items l.rest ≡ fields_from 129 [] l.bytes)
