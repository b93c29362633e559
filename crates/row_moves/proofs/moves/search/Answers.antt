use Rattle.std.proofs.Common.{◌≡◌, ℕ, Bool, true, Some, List, refl, sym, ap, ◌∙◌, arith, of_calls, option_map}
use Rattle.key_lists.specs.Order.{first}
use Rattle.key_lists.specs.Pairs.{Pair}
use Rattle.row_moves.specs.Orders.{candidates, Sees}
use Rattle.row_moves.proofs.Steps.{next_each, turn, at_end}
use Rattle.row_moves.proofs.moves.search.Goals as goal

pub loop-met-init : goal.loop-met-init
loop-met-init g c = record {
  same = c.first_met-met.ensures.same;
  in_budget = c.requires.in_budget;
  ahead = (option_map g.O.RowOrder.pair c.args.from.now, c.first_met-met.ensures.found, λ shown sees. (refl, refl));
}

pub see-requires : goal.see-requires
see-requires g c =
    let pairs : List Pair = (g.O.RowOrder.list c.args.order.now).pairs in
    let p = g.O.RowOrder.pair c.in-Some.place in
    let ahead = c.loop-met.invariant.ahead in
    let found : Some p ≡ first (candidates c.args.forward ahead.0 pairs) =
    sym (ap (option_map g.O.RowOrder.pair) c.in-Some.is) ∙ ahead.1 in
    let may : goal.F-pre g c.args.see.now p.1 =
    next_each (λ q. goal.F-pre g c.args.see.now q.1) c.args.forward ahead.0 pairs p c.requires.callable found in
    let here : goal.F-pre g c.args.see.now c.number.result = rw c.number.ensures may in
    search of_calls

pub loop-met-preserved : goal.loop-met-preserved
loop-met-preserved g c =
    let pairs : List Pair = (g.O.RowOrder.list c.args.order.now).pairs in
    let p = g.O.RowOrder.pair c.in-Some.place in
    let inv = c.loop-met.invariant in
    let ahead = inv.ahead in
    let found : Some p ≡ first (candidates c.args.forward ahead.0 pairs) =
    sym (ap (option_map g.O.RowOrder.pair) c.in-Some.is) ∙ ahead.1 in
    let meets = c.meets_each.ensures pairs c.requires.ordered in
    let on = rw inv.same at c.next-met.ensures.found in
    let hidden = λ (shown : ℕ → Bool) (sees : Sees (goal.F-post g) c.args.see.now pairs shown).
    let says = next_each (λ q. (r : Bool) → goal.F-post g c.args.see.now q.1 r → r ≡ shown q.1) c.args.forward ahead.0
    pairs p sees found in
    sym (says c.see.result (rw (sym c.number.ensures) c.see.ensures)) ∙ c.if-see.false in
    record {
      same = c.next-met.ensures.same ∙ inv.same;
      in_budget = omega arith;
      ahead = (
        Some p,
        on,
        λ shown sees.
            let t = turn shown c.args.forward ahead.0 pairs p meets found in
            let so_far = ahead.2 shown sees in
            (sym (t.miss (hidden shown sees)).0 ∙ so_far.0, omega (arith, (t.miss (hidden shown sees)).1, so_far.1)),
      );
    }

pub returns-then-cost-budget-clause-scan : goal.returns-then-cost-budget-clause-scan
returns-then-cost-budget-clause-scan g c = λ shown sees.
    let pairs : List Pair = (g.O.RowOrder.list c.args.order.now).pairs in
    let p = g.O.RowOrder.pair c.in-Some.place in
    let ahead = c.loop-met.invariant.ahead in
    let found : Some p ≡ first (candidates c.args.forward ahead.0 pairs) =
    sym (ap (option_map g.O.RowOrder.pair) c.in-Some.is) ∙ ahead.1 in
    let t = turn shown c.args.forward ahead.0 pairs p (c.meets_each.ensures pairs c.requires.ordered) found in
    omega (arith, t.some, (ahead.2 shown sees).1)

pub returns-then-see-clause-scan : goal.returns-then-see-clause-scan
returns-then-see-clause-scan g c = λ shown sees.
    let pairs : List Pair = (g.O.RowOrder.list c.args.order.now).pairs in
    let p = g.O.RowOrder.pair c.in-Some.place in
    let ahead = c.loop-met.invariant.ahead in
    let found : Some p ≡ first (candidates c.args.forward ahead.0 pairs) =
    sym (ap (option_map g.O.RowOrder.pair) c.in-Some.is) ∙ ahead.1 in
    let t = turn shown c.args.forward ahead.0 pairs p (c.meets_each.ensures pairs c.requires.ordered) found in
    let says = next_each (λ q. (r : Bool) → goal.F-post g c.args.see.now q.1 r → r ≡ shown q.1) c.args.forward ahead.0
    pairs p sees found in
    let seen : shown p.1 ≡ true = sym (says c.see.result (rw (sym c.number.ensures) c.see.ensures)) ∙ c.if-see.true in
    let so_far = ahead.2 shown sees in
    (sym (t.hit seen).0 ∙ so_far.0, omega (arith, (t.hit seen).1, so_far.1), omega arith)

pub returns-clause-scan : goal.returns-clause-scan
returns-clause-scan g c = λ shown sees.
    let ahead = c.loop-met.invariant.ahead in
    let t = at_end shown _ (sym (ap (option_map g.O.RowOrder.pair) c.in_default.is) ∙ ahead.1) in
    let so_far = ahead.2 shown sees in
    (sym t.0 ∙ so_far.0, omega (arith, t.1, so_far.1), omega (arith, c.loop-met.invariant.in_budget))
