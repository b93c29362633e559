use Rattle.std.proofs.Common.{◌≡◌, ℕ, ◌+◌, ◌≤◌, Bool, option_map}
use Rattle.row_moves.specs.Orders.{Sees}
use Rattle.row_moves.specs.Moves.{hops}
use Rattle.row_moves.proofs.moves.go_on.Given as goal

abbrev pub invariant-loop-left : goal.invariant-loop-left
invariant-loop-left g l = record {
  same : g.O.RowOrder.list l.order ≡ g.O.RowOrder.list l.fn.order;
  in_budget : l.cost ≤ l.budget;
  at : (shown : ℕ → Bool) → Sees (goal.F-post g) l.see (g.O.RowOrder.list l.fn.order).pairs shown
      → (hops shown l.forward l.left (option_map g.O.RowOrder.pair l.at) (g.O.RowOrder.list l.fn.order).pairs).at
      ≡ (hops shown l.forward l.steps (option_map g.O.RowOrder.pair l.fn.from)
      (g.O.RowOrder.list l.fn.order).pairs).at;
  bof : (shown : ℕ → Bool) → Sees (goal.F-post g) l.see (g.O.RowOrder.list l.fn.order).pairs shown
      → (hops shown l.forward l.left (option_map g.O.RowOrder.pair l.at) (g.O.RowOrder.list l.fn.order).pairs).bof
      ≡ (hops shown l.forward l.steps (option_map g.O.RowOrder.pair l.fn.from)
      (g.O.RowOrder.list l.fn.order).pairs).bof;
  met : (shown : ℕ → Bool) → Sees (goal.F-post g) l.see (g.O.RowOrder.list l.fn.order).pairs shown
      → l.cost + (hops shown l.forward l.left (option_map g.O.RowOrder.pair l.at)
      (g.O.RowOrder.list l.fn.order).pairs).met ≡ 1
      + (hops shown l.forward l.steps (option_map g.O.RowOrder.pair l.fn.from)
      (g.O.RowOrder.list l.fn.order).pairs).met;
}

abbrev pub decreases-loop-left : goal.decreases-loop-left
decreases-loop-left g l = l.left
