use Rattle.std.proofs.Common.{◌≡◌, ◌∙◌}
use Rattle.dbf_file.specs.Tables.{structure_of, row_widths}
use Rattle.dbf_file.proofs.FileLemmas.{good_fields, same_structure}
use Rattle.dbf_file.proofs.TableLemmas.{no_rows}
use Rattle.dbf_file.proofs.EmptyLemmas.{kept_empty}
use Rattle.dbf_file.proofs.table.Table.empty.Goals as goal

pub size_of-requires : goal.size_of-requires
size_of-requires c = (good_fields c.args.fields.now c.requires).most

pub of_parts-requires : goal.of_parts-requires
of_parts-requires c = (good_fields c.args.fields.now c.requires).most

pub invariant_of-result : goal.invariant_of-result
invariant_of-result c =
    let same : c.in_ok-of_parts.field-0 ≡ structure_of c.args.fields.now = same_structure c.in_ok-of_parts.field-0 _ _
    c.in_ok-of_parts.ensures.fields (c.in_ok-of_parts.ensures.head ∙ c.as_slice.ensures.value
    ∙ c.in_ok-head.ensures) in
    kept_empty c.in_ok-of_parts.field-0 c.args.fields.now c.size_of.result _ c.requires same c.size_of.ensures.value
    c.new.ensures.items

pub returns-clause-rows : goal.returns-clause-rows
returns-clause-rows c = no_rows (row_widths c.in_ok-of_parts.field-0) _
