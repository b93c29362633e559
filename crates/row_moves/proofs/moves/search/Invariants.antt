use Rattle.std.proofs.Common.{◌≡◌, ℕ, ◌+◌, ◌-◌, ◌≤◌, Bool, Option, option_map}
use Rattle.key_lists.specs.Order.{first}
use Rattle.key_lists.specs.Pairs.{Pair}
use Rattle.row_moves.specs.Orders.{candidates, Sees}
use Rattle.row_moves.specs.Moves.{first_shown, met}
use Rattle.row_moves.proofs.moves.search.Given as goal

abbrev pub invariant-loop-met : goal.invariant-loop-met
invariant-loop-met g l = record {
  same : g.O.RowOrder.list l.order ≡ g.O.RowOrder.list l.fn.order;
  in_budget : l.cost ≤ l.budget;
  ahead : (at : Option Pair)
      × (option_map g.O.RowOrder.pair l.met ≡ first (candidates l.forward at (g.O.RowOrder.list l.fn.order).pairs))
      × ((shown : ℕ → Bool) → Sees (goal.F-post g) l.see (g.O.RowOrder.list l.fn.order).pairs shown
      → (first_shown shown (candidates l.forward at (g.O.RowOrder.list l.fn.order).pairs)
      ≡ first_shown shown (candidates l.forward (option_map g.O.RowOrder.pair l.from)
      (g.O.RowOrder.list l.fn.order).pairs))
      × (l.cost + met shown (candidates l.forward at (g.O.RowOrder.list l.fn.order).pairs)
      ≡ l.fn.cost + met shown (candidates l.forward (option_map g.O.RowOrder.pair l.from)
      (g.O.RowOrder.list l.fn.order).pairs)));
}

abbrev pub decreases-loop-met : goal.decreases-loop-met
decreases-loop-met g l = l.budget - l.cost
