use Rattle.std.proofs.Common.{◌∙◌, ap}
use Rattle.dbf_file.specs.Rows.{is_marked_at}
use Rattle.dbf_file.specs.Tables.{TableState, row_widths}
use Rattle.dbf_file.proofs.TableLemmas.{row_below, small_size, mark_read}
use Rattle.dbf_file.proofs.table.Table.mark.Goals as goal

pub row_place-place-requires-clause-row : goal.row_place-place-requires-clause-row
row_place-place-requires-clause-row c = row_below c.args.self.now (row_widths c.self.inside.structure)
    c.self.inside.records.items c.self.inside.rows c.args.r (ap (λ (t : TableState). t.rows) c.self.view_is) c.requires

pub returns : goal.returns
returns c =
    let t = c.self.inside in
    let row = row_below c.args.self.now (row_widths t.structure) t.records.items t.rows c.args.r
    (ap (λ (u : TableState). u.rows) c.self.view_is) c.requires in
    mark_read t.structure t.size t.rows c.args.r c.row_place-place.result c.index.result.now t.records.items
    c.self.invariant row c.row_place-place.ensures.place c.row_place-place.ensures.within c.index.ensures
    ∙ ap (λ (u : TableState). is_marked_at u.rows c.args.r) c.self.view_is

pub row_place-place-requires-clause-small : goal.row_place-place-requires-clause-small
row_place-place-requires-clause-small c =
    (small_size c.self.inside.structure c.self.inside.size c.self.invariant.good c.self.invariant.right_size).1
