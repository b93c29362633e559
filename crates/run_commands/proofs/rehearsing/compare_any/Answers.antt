use Rattle.std.proofs.Common.{◌∙◌, ap, Bool, List, length}
use Rattle.std.proofs.lemmas.List.FromFn.{length-map-range_with_len}
use Rattle.table_changes.specs.Rows.{is_fresh_in}
use Rattle.run_commands.proofs.rehearsing.compare_any.Goals as goal

pub changes_since-changes-requires-clause-fresh : goal.changes_since-changes-requires-clause-fresh
changes_since-changes-requires-clause-fresh g c =
    ap (λ (l : List Bool). length l) c.in_ok-kept.ensures.fresh
    ∙ length-map-range_with_len (is_fresh_in c.in_ok-store.store) 0 _
