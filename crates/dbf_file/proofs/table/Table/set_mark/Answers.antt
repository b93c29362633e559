use Rattle.std.proofs.Common.{ap}
use Rattle.std.proofs.lemmas.List.{length-set}
use Rattle.dbf_file.specs.Tables.{TableState, row_widths}
use Rattle.dbf_file.proofs.TableLemmas.{row_below, kept_same, small_size, marked_state}
use Rattle.dbf_file.proofs.table.Table.set_mark.Goals as goal

pub row_place-place-requires-clause-row : goal.row_place-place-requires-clause-row
row_place-place-requires-clause-row c = row_below c.args.self.now (row_widths c.self.inside.structure)
    c.self.inside.records.items c.self.inside.rows c.args.r (ap (λ (t : TableState). t.rows) c.self.view_is) c.requires

pub invariant_of-self : goal.invariant_of-self
invariant_of-self c = kept_same c.self.inside.structure c.self.inside.size c.self.inside.rows
    c.self.inside.records.items _ c.self.invariant
    (length-set c.self.inside.records.items c.row_place-place.result c.mark_byte.result)

pub returns : goal.returns
returns c =
    let t = c.self.inside in
    let row = row_below c.args.self.now (row_widths t.structure) t.records.items t.rows c.args.r
    (ap (λ (u : TableState). u.rows) c.self.view_is) c.requires in
    marked_state c.args.self.now t.structure t.size t.rows c.args.r c.row_place-place.result _ c.mark_byte.result
    c.args.marked t.records.items c.self.invariant row c.row_place-place.ensures.place c.mark_byte.ensures
    c.self.view_is

pub row_place-place-requires-clause-small : goal.row_place-place-requires-clause-small
row_place-place-requires-clause-small c =
    (small_size c.self.inside.structure c.self.inside.size c.self.invariant.good c.self.invariant.right_size).1
