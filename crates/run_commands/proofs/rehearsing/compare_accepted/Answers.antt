use Rattle.std.proofs.Common.{◌∙◌, ap, Bool, List, length}
use Rattle.std.proofs.lemmas.List.FromFn.{length-map-range_with_len}
use Rattle.table_changes.specs.Rows.{is_fresh_in}
use Rattle.run_commands.proofs.Rehearsed.{leaves_told}
use Rattle.run_commands.proofs.rehearsing.compare_accepted.Goals as goal

pub changes_since-changes-requires-clause-fresh : goal.changes_since-changes-requires-clause-fresh
changes_since-changes-requires-clause-fresh g c =
    ap (λ (l : List Bool). length l) c.in_ok-kept.ensures.fresh
    ∙ length-map-range_with_len (is_fresh_in c.in_ok-loaded.loaded) 0 _

pub returns-clause-done : goal.returns-clause-done
returns-clause-done g c =
    leaves_told _ _ _ _ _ c.alone.result c.in_ok-done.done.run c.in_ok-loaded.loaded c.in_ok-done.done.banks.env.store _
    _ _ c.code.ensures.same c.records.ensures.smaller c.in_ok-loaded.ensures.loaded c.in_ok-done.ensures
    c.alone.ensures c.store.ensures
    (c.changes_since-changes.ensures c.in_ok-loaded.loaded c.in_ok-kept.ensures) c.in_ok-with_changes.ensures
