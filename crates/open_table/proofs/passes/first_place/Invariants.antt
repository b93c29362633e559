use Rattle.std.proofs.Common.{◌≡◌, ℕ, ◌≤◌, Bool, length, take}
use Rattle.std.specs.Fn.{FnReturnsAt}
use Rattle.row_keys.specs.Lists.{kept_rows, index_list}
use Rattle.row_moves.specs.Moves.{first_shown}
use Rattle.open_table.specs.Tried.{ShowsRows}
use Rattle.open_table.proofs.passes.first_place.Given as goal

abbrev pub invariant-loop-r : goal.invariant-loop-r
invariant-loop-r g l = record {
  number : l.number ≡ length (kept_rows l.kept (take l.r l.table.rows));
  few : l.number ≤ l.r;
  best : (shown : ℕ → Bool) → ShowsRows (FnReturnsAt g.F.Fn) l.see l.table.structure (kept_rows l.kept l.table.rows)
      shown
      → l.best ≡ first_shown shown (index_list l.key (kept_rows l.kept (take l.r l.table.rows)));
}
