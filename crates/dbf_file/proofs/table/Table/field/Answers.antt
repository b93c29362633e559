use Rattle.std.proofs.Common.{◌∙◌, ◌-◌, ◌<◌, sym, ap, subst, length, take, drop, ℕ, List}
use Rattle.dbf_file.specs.Rows.{text_at}
use Rattle.dbf_file.specs.Tables.{TableState, row_widths}
use Rattle.dbf_file.proofs.TableLemmas.{row_below, field_text, field_below}
use Rattle.dbf_file.proofs.table.Table.field.Goals as goal

pub span_of-start-requires-clause-row : goal.span_of-start-requires-clause-row
span_of-start-requires-clause-row c = row_below c.args.self.now (row_widths c.self.inside.structure)
    c.self.inside.records.items c.self.inside.rows c.args.r (ap (λ (t : TableState). t.rows) c.self.view_is)
    c.requires.row

pub returns-clause-text : goal.returns-clause-text
returns-clause-text c =
    let t = c.self.inside in
    let row = row_below c.args.self.now (row_widths t.structure) t.records.items t.rows c.args.r
    (ap (λ (u : TableState). u.rows) c.self.view_is) c.requires.row in
    let below : c.args.f < length t.structure.fields =
    subst (λ (u : TableState). c.args.f < length u.structure.fields) (sym c.self.view_is) c.requires.field in
    ap (λ (xs : List ℕ). take (c.span_of-start.result.1 - c.span_of-start.result.0) (drop c.span_of-start.result.0 xs))
    c.deref.ensures.value
    ∙ field_text (row_widths t.structure) t.records.items t.rows c.args.r c.args.f _ _ c.span_of-start.ensures.start
    c.span_of-start.ensures.end row (field_below t.structure c.args.f below)
    ∙ ap (λ (u : TableState). text_at u.rows c.args.r c.args.f) c.self.view_is
