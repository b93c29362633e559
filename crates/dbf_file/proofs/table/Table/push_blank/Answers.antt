use Rattle.std.proofs.Common.{◌≡◌, ◌∙◌, ◌+◌, ◌-◌, ◌/◌, ◌≤◌, ◌<◌, ◌++◌, ◌∷◌, [], sym, ap, subst, length, arith}
use Rattle.std.specs.Vec.{vec_len, vec_capacity}
use Rattle.dbf_file.specs.Rows.{blank_row}
use Rattle.dbf_file.specs.Tables.{TableState, row_widths}
use Rattle.dbf_file.proofs.RowLemmas.{length-rows_in}
use Rattle.dbf_file.proofs.TableLemmas.{kept_more, rows_with_blank, with_blank, room_less, small_size}
use Rattle.dbf_file.proofs.table.Table.push_blank.Goals as goal

pub invariant_of-self : goal.invariant_of-self
invariant_of-self c =
    let t = c.self.inside in
    let count = length-rows_in (row_widths t.structure) t.rows t.records.items in
    let few : t.rows < 1000000 = omega (arith, ap (λ (u : TableState). length u.rows) c.self.view_is, count) in
    kept_more t.structure t.size t.rows t.records.items _ c.self.invariant few
    (with_blank t.records.items _ c.len.result (vec_len t.records) t.size (sym t.records.ok.0 ∙ sym c.len.ensures)
    (sym c.len.ensures) c.in-Ok.ensures.items)

pub returns-clause-rows : goal.returns-clause-rows
returns-clause-rows c =
    let t = c.self.inside in
    rows_with_blank t.structure t.size t.rows t.records.items _ c.self.invariant
    (with_blank t.records.items _ c.len.result (vec_len t.records) t.size (sym t.records.ok.0 ∙ sym c.len.ensures)
    (sym c.len.ensures) c.in-Ok.ensures.items)
    ∙ ap (λ (u : TableState). u.rows ++ blank_row (row_widths u.structure) ∷ []) c.self.view_is

pub returns-clause-spare : goal.returns-clause-spare
returns-clause-spare c =
    let t = c.self.inside in
    let some = (small_size t.structure t.size c.self.invariant.good c.self.invariant.right_size).0 in
    let after = vec_capacity c.resize.new.self in
    let longer : vec_len c.resize.new.self ≡ vec_len t.records + t.size =
    c.in-Ok.ensures.len ∙ ap (λ k. k + t.size) c.len.ensures in
    subst (λ k. c.args.self.now.spare ≤ (after - k) / t.size + 1) (sym longer)
    (subst (λ k. k ≤ (after - (vec_len t.records + t.size)) / t.size + 1)
    (ap (λ (u : TableState). u.spare) c.self.view_is)
    (room_less t.size (vec_len t.records) (vec_capacity t.records) after some c.in-Ok.ensures.capacity))
