use Rattle.std.proofs.Common.{◌∙◌, ◌*◌, sym, ap, List, ℕ, take}
use Rattle.dbf_file.specs.Rows.{rows_in, unmarked}
use Rattle.dbf_file.specs.Tables.{TableState, row_widths}
use Rattle.dbf_file.proofs.RowLemmas.{rows_of_front}
use Rattle.dbf_file.proofs.TableLemmas.{small_size}
use Rattle.dbf_file.proofs.table.Table.pack.Goals as goal

pub keep_unmarked-kept-requires-clause-small : goal.keep_unmarked-kept-requires-clause-small
keep_unmarked-kept-requires-clause-small c =
    (small_size c.self.inside.structure c.self.inside.size c.self.invariant.good c.self.invariant.right_size).1

pub returns-clause-rows : goal.returns-clause-rows
returns-clause-rows c =
    let t = c.self.inside in
    let ws : List ℕ = row_widths t.structure in
    let kept = c.keep_unmarked-kept.result in
    let items = c.keep_unmarked-kept.new.records.items in
    ap (rows_in ws kept) (c.truncate.ensures.items ∙ ap (λ k. take (kept * k) items) c.self.invariant.right_size)
    ∙ rows_of_front ws kept items
    ∙ c.keep_unmarked-kept.ensures.kept ws (sym c.self.invariant.right_size)
    ∙ ap (λ (u : TableState). unmarked u.rows) c.self.view_is
