use Rattle.std.proofs.Common.{◌∙◌, ◌+◌, ◌++◌, sym, ap, subst, length, arith, List, ℕ}
use Rattle.dbf_file.specs.Rows.{rows_in, rows_text}
use Rattle.dbf_file.specs.Tables.{TableState, DbfText, AreRows, IsStructure, dbf_text, row_widths}
use Rattle.dbf_file.proofs.TableLemmas.{small_size, sound_of}
use Rattle.dbf_file.proofs.WriteLemmas.{written_is, written_reads}
use Rattle.dbf_file.proofs.table.write.Goals as goal

pub put_front-requires-clause-size : goal.put_front-requires-clause-size
put_front-requires-clause-size c = let small = small_size c.table.inside.structure c.table.inside.size
    c.table.invariant.good c.table.invariant.right_size in omega (arith, small)

pub returns-clause-exact : goal.returns-clause-exact
returns-clause-exact c =
    let t = c.table.inside in
    written_is t.structure t.size t.rows _ t.records.items c.args.stamp _ _ _ _ _ c.head-head.result.now
    c.table.invariant c.head-head.ensures (ap (λ (xs : List ℕ). 12 + length xs) c.head-head.ensures)
    c.in_ok-out.ensures.items c.in_ok-put_front.ensures c.in_ok-extend_from_slice.ensures.items
    (c.in_ok-put_rows.ensures (row_widths t.structure) (sym c.table.invariant.right_size)
    ∙ ap (λ (xs : List ℕ). c.extend_from_slice.new.self.items ++ rows_text
    (rows_in (row_widths t.structure) t.rows xs)) c.as_slice.ensures.value) c.in_ok-push.ensures.items
    ∙ ap (λ (u : TableState). dbf_text u.structure u.rows c.args.stamp) c.table.view_is

pub returns-clause-reads : goal.returns-clause-reads
returns-clause-reads c =
    let t = c.table.inside in
    let now = c.args.table.now in
    let good : IsStructure now.structure =
    subst (λ (u : TableState). IsStructure u.structure) c.table.view_is c.table.invariant.good in
    let sound : AreRows now.structure now.rows = subst (λ (u : TableState). AreRows u.structure u.rows) c.table.view_is
    (sound_of t.structure t.size t.rows t.records.items c.table.invariant) in
    subst (λ (bytes : List ℕ). DbfText now.structure now.rows c.args.stamp bytes) (sym (returns-clause-exact c))
    (written_reads now.structure now.rows c.args.stamp good sound)
