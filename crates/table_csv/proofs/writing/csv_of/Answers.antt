use Rattle.std.proofs.Common.{◌≡◌, ◌<◌, [], length, take, subst, ap, ◌∙◌, rules}
use Rattle.std.proofs.Math.Seq.{take-length}
use Rattle.dbf_file.specs.Rows.{no_row}
use Rattle.table_csv.specs.Cells.{lines_of, lines_text, names_line, csv_line}
use Rattle.table_csv.specs.Written.{HasWritten}
use Rattle.table_csv.proofs.LineLemmas.{first_line, more_lines}
use Rattle.table_csv.proofs.writing.csv_of.Goals as goal

pub loop-r-init : goal.loop-r-init
loop-r-init c =
    subst (λ t. HasWritten t c.put_line.new.writer)
    (first_line (names_line c.args.table.now.structure.fields) _
    (c.in_ok-line.ensures ∙ ap names_line (c.fields.ensures ∙ ap (λ s. s.fields) c.structure.ensures.same)))
    (c.in_ok-put_line.ensures [] c.new_writer-writer.ensures)

pub loop-r-preserved : goal.loop-r-preserved
loop-r-preserved c =
    let below : c.loop-r.r < length c.args.table.now.rows = search rules in
    subst (λ t. HasWritten t c.put_line-in-loop-r.new.writer)
    (more_lines (names_line c.args.table.now.structure.fields) _ (csv_line c.args.table.now.structure.fields)
    c.args.table.now.rows c.loop-r.r no_row below c.in_ok-put_row.ensures)
    (c.in_ok-put_line-2.ensures _ c.loop-r.invariant)

pub returns : goal.returns
returns c =
    let all : c.loop-r.r ≡ length c.args.table.now.rows = search rules in
    let rows = c.args.table.now.rows in
    c.in_ok-text.ensures _ c.loop-r.invariant ∙ ap (λ rs. lines_text (lines_of c.args.table.now.structure.fields rs))
    (ap (λ n. take n rows) all ∙ take-length rows)
