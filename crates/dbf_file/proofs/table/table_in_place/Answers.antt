use Rattle.std.proofs.Common.{◌≡◌, ◌∙◌, ap, sym, subst, List, ℕ}
use Rattle.dbf_file.specs.Rows.{rows_in}
use Rattle.dbf_file.specs.Tables.{StructureState, row_widths}
use Rattle.dbf_file.specs.Kept.{IsKept}
use Rattle.dbf_file.specs.Layouts.{structure_told}
use Rattle.dbf_file.proofs.FileLemmas.{kept_told, rows_of_records, same_structure}
use Rattle.dbf_file.proofs.table.table_in_place.Goals as goal

pub invariant_of-result : goal.invariant_of-result
invariant_of-result c =
    let layout = c.args.layout.now in
    let structure : c.in_ok-structure.structure ≡ structure_told c.args.bytes.items layout = same_structure
    c.in_ok-structure.structure _ _ (c.in_ok-structure.ensures.fields ∙ c.as_slice.ensures.value)
    c.in_ok-structure.ensures.head ∙ ap (λ l. structure_told l layout) c.deref.ensures.value in
    let kept = kept_told c.args.bytes.items layout c.requires in
    subst (λ (s : StructureState). IsKept s layout.size layout.rows c.keep_part.new.bytes.items) (sym structure)
    (subst (λ (xs : List ℕ). IsKept (structure_told c.args.bytes.items layout) layout.size layout.rows xs)
    (sym c.keep_part.ensures) kept)

pub returns-clause-rows : goal.returns-clause-rows
returns-clause-rows c =
    let layout = c.args.layout.now in
    let structure : c.in_ok-structure.structure ≡ structure_told c.args.bytes.items layout = same_structure
    c.in_ok-structure.structure _ _ (c.in_ok-structure.ensures.fields ∙ c.as_slice.ensures.value)
    c.in_ok-structure.ensures.head ∙ ap (λ l. structure_told l layout) c.deref.ensures.value in
    ap (λ (s : StructureState). rows_in (row_widths s) layout.rows c.keep_part.new.bytes.items) structure
    ∙ ap (rows_in (row_widths (structure_told c.args.bytes.items layout)) layout.rows) c.keep_part.ensures
    ∙ rows_of_records c.args.bytes.items layout c.requires
