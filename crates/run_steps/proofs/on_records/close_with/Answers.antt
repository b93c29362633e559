use Rattle.std.proofs.Common.{[], ◌∷◌}
use Rattle.std.specs.Fn.{FnReturnsAt}
use Rattle.open_table.specs.Open.{opened}
use Rattle.work_area.specs.Areas.{here, with_here}
use Rattle.work_area.specs.Calls.{packed_rows, all_rows, packed_in, pack_of, reindexed_in, reindex_of, index_on_of}
use Rattle.work_area.specs.Calls.{indexed_here}
use Rattle.run_steps.proofs.Walks.{closes_there}
use Rattle.run_steps.proofs.on_records.close_with.Goals as goal

pub returns-in-Pack : goal.returns-in-Pack
returns-in-Pack g c =
    rw c.in-Pack.is (closes_there (FnReturnsAt g.F.Fn) c.args.see
    (here c.args.store.now) packed_rows with_here packed_in pack_of c.args.left c.args.store.now c.pack.new.self
    c.pack.result c.refused.result c.pack.ensures c.refused.ensures)

pub returns-in-Reindex : goal.returns-in-Reindex
returns-in-Reindex g c =
    rw c.in-Reindex.is (closes_there (FnReturnsAt g.F.Fn) c.args.see
    (here c.args.store.now) all_rows with_here reindexed_in reindex_of c.args.left c.args.store.now c.reindex.new.self
    c.reindex.result c.refused-in-Reindex.result
    c.reindex.ensures c.refused-in-Reindex.ensures)

pub returns-in-Index : goal.returns-in-Index
returns-in-Index g c =
    rw (c.in-Index.is, ← c.index_of.ensures) (closes_there (FnReturnsAt g.F.Fn) c.args.see
    (here c.args.store.now) all_rows (indexed_here c.in-Index.list) (opened (c.index_of.result ∷ []))
    (index_on_of c.index_of.result) c.args.left c.args.store.now c.index_on.new.self
    c.index_on.result c.refused-in-Index.result (rw c.from.ensures at c.index_on.ensures) c.refused-in-Index.ensures)
