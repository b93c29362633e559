use Rattle.std.proofs.Common.{◌∙◌, sym, ap, subst, length, drop, ℕ, arith, List}
use Rattle.std.proofs.lemmas.Result.{err_from_is_err_and}
use Rattle.dbf_file.specs.declared.stamp.Stamp.{Stamp}
use Rattle.dbf_file.specs.Fields.{widths_of}
use Rattle.dbf_file.proofs.RowLemmas.{length-rows_in}
use Rattle.dbf_file.specs.Rows.{Row}
use Rattle.dbf_file.specs.Tables.{StructureState, DbfText}
use Rattle.dbf_file.specs.Layouts.{structure_told, rows_told}
use Rattle.dbf_file.proofs.FileLemmas.{text_of, parts_of, told_same, no_text_with_fault}
use Rattle.dbf_file.proofs.table.read.Goals as goal

-- some stamp makes the bytes the text
abbrev TheText : List ℕ → StructureState → List Row → Type 0
TheText bytes structure rows = (stamp : Stamp) × DbfText structure rows stamp bytes

pub returns-in_err-layout-clause-only : goal.returns-in_err-layout-clause-only
returns-in_err-layout-clause-only c =
    let p = err_from_is_err_and c.from_residual.result c.from_residual.ensures.1 in
    rw p.1 (λ structure rows stamp text limited. absurd
    (no_text_with_fault c.args.limit structure rows stamp c.args.bytes.now c.in_err-layout.field-0.0 text limited
    c.in_err-layout.ensures.fault))

pub returns-in-Ok-clause-found : goal.returns-in-Ok-clause-found
returns-in-Ok-clause-found c =
    let layout = c.in_ok-layout.layout in
    let bytes = c.args.bytes.now in
    let told : TheText bytes (structure_told bytes layout) (rows_told bytes layout) =
    (_, text_of bytes layout c.in_ok-layout.ensures.layout) in
    subst (λ (s : StructureState). TheText bytes s c.in-Ok.table.rows) (sym c.in-Ok.ensures.structure)
    (subst (TheText bytes (structure_told bytes layout)) (sym c.in-Ok.ensures.rows) told)

pub returns-in-Ok-clause-within : goal.returns-in-Ok-clause-within
returns-in-Ok-clause-within c =
    let layout = c.in_ok-layout.layout in
    let count = length-rows_in (widths_of layout.fields.items) layout.rows (drop layout.header c.args.bytes.now) in
    omega (arith, ap length c.in-Ok.ensures.rows, count, c.in_ok-layout.ensures.limited)

pub returns-in-Ok-clause-only : goal.returns-in-Ok-clause-only
returns-in-Ok-clause-only c = λ structure rows stamp text limited.
    let layout = c.in_ok-layout.layout in
    let same = told_same c.args.bytes.now layout structure rows c.in_ok-layout.ensures.layout
    (parts_of structure rows stamp c.args.bytes.now text) in
    (c.in-Ok.ensures.structure ∙ same.0, c.in-Ok.ensures.rows ∙ same.1)
