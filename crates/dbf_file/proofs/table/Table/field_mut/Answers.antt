use Rattle.std.proofs.Common.{◌≡◌, ◌∙◌, ◌-◌, ◌<◌, sym, ap, subst, length, arith, refl, get_or}
use Rattle.dbf_file.specs.Rows.{text_at}
use Rattle.dbf_file.specs.Tables.{TableState, row_widths}
use Rattle.dbf_file.proofs.TableLemmas.{row_below, field_text, field_below, kept_same, left_state, left_length}
use Rattle.dbf_file.proofs.table.Table.field_mut.Goals as goal

pub span_of-start-requires-clause-row : goal.span_of-start-requires-clause-row
span_of-start-requires-clause-row c = row_below c.args.self.now (row_widths c.self.inside.structure)
    c.self.inside.records.items c.self.inside.rows c.args.r (ap (λ (t : TableState). t.rows) c.self.view_is)
    c.requires.row

pub invariant_of-self-lent : goal.invariant_of-self-lent
invariant_of-self-lent c = λ w.
    let t = c.self.inside in
    kept_same t.structure t.size t.rows t.records.items _ c.self.invariant
    (left_length c.span_of-start.result.0 t.records.len w t.records.items (sym t.records.ok.0)
    (omega (
      arith,
      t.records.ok.0,
      c.self.invariant.whole,
      c.span_of-start.ensures.within,
      c.span_of-start.ensures.end,
    )))

pub returns : goal.returns
returns c =
    let t = c.self.inside in
    let row = row_below c.args.self.now (row_widths t.structure) t.records.items t.rows c.args.r
    (ap (λ (u : TableState). u.rows) c.self.view_is) c.requires.row in
    let below : c.args.f < length t.structure.fields =
    subst (λ (u : TableState). c.args.f < length u.structure.fields) (sym c.self.view_is) c.requires.field in
    let text = field_text (row_widths t.structure) t.records.items t.rows c.args.r c.args.f _ _
    c.span_of-start.ensures.start c.span_of-start.ensures.end row (field_below t.structure c.args.f below) in
    let long : c.span_of-start.result.1 - c.span_of-start.result.0 ≡ get_or (row_widths t.structure) c.args.f 0 =
    omega (arith, c.span_of-start.ensures.end) in (
      (
        refl,
        λ w. left_state c.args.self.now t.structure t.size t.rows c.args.r c.args.f c.span_of-start.result.0
            t.records.len _ w t.records.items c.self.invariant row below c.span_of-start.ensures.start
            (sym t.records.ok.0) c.self.view_is,
      ),
      record {
        writes_back = tt;
        text = c.slice_mut.ensures.value ∙ text
            ∙ ap (λ (u : TableState). text_at u.rows c.args.r c.args.f) c.self.view_is;
        width = c.slice_mut.ensures.len
            ∙ long ∙ ap (λ (u : TableState). get_or (row_widths u.structure) c.args.f 0) c.self.view_is;
      },
    )
