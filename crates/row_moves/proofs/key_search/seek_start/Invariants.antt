use Rattle.std.proofs.Common.{◌≡◌, ℕ, ◌+◌, ◌-◌, ◌≤◌, Bool}
use Rattle.row_moves.specs.Orders.{Sees}
use Rattle.row_moves.specs.Moves.{first_shown, met}
use Rattle.row_moves.specs.Seeking.{all_starting, starting}
use Rattle.row_moves.proofs.key_search.seek_start.Given as goal

abbrev pub invariant-loop-entry : goal.invariant-loop-entry
invariant-loop-entry g l = record {
  pairs : g.K.KeyList.pairs l.keys ≡ g.K.KeyList.pairs l.fn.keys;
  form : g.K.KeyList.form l.keys ≡ g.K.KeyList.form l.fn.keys;
  spare : g.K.KeyList.spare l.keys ≡ g.K.KeyList.spare l.fn.keys;
  in_budget : l.cost ≤ l.budget;
  answer : (shown : ℕ → Bool) → Sees (goal.F-post g) l.see (g.K.KeyList.pairs l.fn.keys) shown
      → first_shown shown (starting l.start l.at (g.K.KeyList.pairs l.fn.keys))
      ≡ first_shown shown (all_starting l.start (g.K.KeyList.pairs l.fn.keys));
  met : (shown : ℕ → Bool) → Sees (goal.F-post g) l.see (g.K.KeyList.pairs l.fn.keys) shown
      → l.cost + met shown (starting l.start l.at (g.K.KeyList.pairs l.fn.keys))
      ≡ 1 + met shown (all_starting l.start (g.K.KeyList.pairs l.fn.keys));
}

abbrev pub decreases-loop-entry : goal.decreases-loop-entry
decreases-loop-entry g l = l.budget - l.cost
