-- A table has few fields.
use Rattle.std.proofs.Common.{◌≡◌, ◌≤◌, ◌&&◌, Bool, true, List, [], length, nat_le}
use Rattle.std.proofs.lemmas.Bool.{leb-true, and_parts}
use Rattle.dbf_file.specs.declared.field.Field.{Field}
use Rattle.dbf_file.specs.Fields.{are_fields, fields_go_on, size_of, widths_of}

pub few_fields : (fields : List Field) → are_fields fields ≡ true → length fields ≤ 128
unfolding are_fields
few_fields fields e =
    let some : Bool = nat_le 1 (length fields) in
    let few : Bool = nat_le (length fields) 128 in
    let apart : Bool = fields_go_on [] fields in
    let short : Bool = nat_le (size_of (widths_of fields)) 4000 in
    leb-true (length fields) 128
    (and_parts some few (and_parts (some && few) apart (and_parts (some && few && apart) short e).0).0).1
