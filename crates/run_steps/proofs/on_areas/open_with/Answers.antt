use Rattle.std.specs.Fn.{FnReturnsAt}
use Rattle.open_table.specs.Open.{opened}
use Rattle.work_area.specs.Areas.{table_at}
use Rattle.work_area.specs.Calls.{open_of, used_here, all_rows}
use Rattle.run_steps.proofs.Walks.{ends_there}
use Rattle.run_steps.proofs.on_areas.open_with.Goals as goal

pub returns : goal.returns
returns g c =
    ends_there (FnReturnsAt g.F.Fn) c.args.see (table_at c.args.store.now c.args.table) all_rows
    (used_here c.args.table c.args.list) (opened c.args.indexes.now) (open_of c.args.indexes.now) c.args.left
    c.args.store.now c.open.new.self c.open.result c.refused.result c.open.ensures c.refused.ensures
