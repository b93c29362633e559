use Rattle.std.proofs.Common.{◌≡◌, ℕ, ◌+◌, Bool, true, List, sym, ap, ◌∙◌, refl, arith, of_calls}
use Rattle.key_lists.specs.Pairs.{Pair}
use Rattle.row_moves.specs.Orders.{Sees}
use Rattle.row_moves.specs.Moves.{first_shown, met}
use Rattle.row_moves.proofs.Steps.{at_end}
use Rattle.row_moves.proofs.Seeking.{begun_each, begun_turn, starting_all}
use Rattle.row_moves.proofs.key_search.seek_start.Goals as goal

pub loop-entry-init : goal.loop-entry-init
loop-entry-init g c =
    let pairs : List Pair = g.K.KeyList.pairs c.args.keys.now in
    let all = starting_all c.args.start.now pairs (c.stand_together.ensures pairs c.requires.ordered) in
    record {
      pairs = refl;
      form = refl;
      spare = refl;
      in_budget = c.requires.in_budget;
      answer = λ shown sees. ap (first_shown shown) all;
      met = λ shown sees. ap (λ ps. 1 + met shown ps) all;
    }

pub see-requires : goal.see-requires
see-requires g c =
    let pairs : List Pair = g.K.KeyList.pairs c.args.keys.now in
    let found = rw c.loop-entry.invariant.pairs at c.in-Some.ensures.found in
    let may : goal.F-pre g c.args.see.now c.in-Some.entry.1 = begun_each (λ p. goal.F-pre g c.args.see.now p.1)
    c.args.start.now c.loop-entry.at pairs c.in-Some.entry c.requires.callable found in
    let here : goal.F-pre g c.args.see.now c.number.result = rw c.number.ensures may in
    search of_calls

pub loop-entry-preserved : goal.loop-entry-preserved
loop-entry-preserved g c =
    let pairs : List Pair = g.K.KeyList.pairs c.args.keys.now in
    let inv = c.loop-entry.invariant in
    let found = rw inv.pairs at c.in-Some.ensures.found in
    let meets = c.meets_each.ensures pairs c.requires.ordered in
    let hidden = λ (shown : ℕ → Bool) (sees : Sees (goal.F-post g) c.args.see.now pairs shown).
    let says = begun_each (λ p. (r : Bool) → goal.F-post g c.args.see.now p.1 r → r ≡ shown p.1) c.args.start.now
    c.loop-entry.at pairs c.in-Some.entry sees found in
    sym (says c.see.result (rw (sym c.number.ensures) c.see.ensures)) ∙ c.if-see.false in
    record {
      pairs = c.in-Some.ensures.pairs ∙ inv.pairs;
      form = c.in-Some.ensures.form ∙ inv.form;
      spare = c.in-Some.ensures.spare ∙ inv.spare;
      in_budget = omega arith;
      answer = λ shown sees.
          let t = begun_turn shown c.args.start.now c.loop-entry.at pairs c.in-Some.entry meets found in
          sym (t.miss (hidden shown sees)).0 ∙ inv.answer shown sees;
      met = λ shown sees.
          let t = begun_turn shown c.args.start.now c.loop-entry.at pairs c.in-Some.entry meets found in
          omega (arith, (t.miss (hidden shown sees)).1, inv.met shown sees);
    }

pub returns-then-cost-budget-clause-scan : goal.returns-then-cost-budget-clause-scan
returns-then-cost-budget-clause-scan g c = λ shown sees.
    let pairs : List Pair = g.K.KeyList.pairs c.args.keys.now in
    let inv = c.loop-entry.invariant in
    let found = rw inv.pairs at c.in-Some.ensures.found in
    let t = begun_turn shown c.args.start.now c.loop-entry.at pairs c.in-Some.entry
    (c.meets_each.ensures pairs c.requires.ordered) found in
    omega (arith, t.some, inv.met shown sees)

pub returns-then-see-clause-scan : goal.returns-then-see-clause-scan
returns-then-see-clause-scan g c = λ shown sees.
    let pairs : List Pair = g.K.KeyList.pairs c.args.keys.now in
    let inv = c.loop-entry.invariant in
    let found = rw inv.pairs at c.in-Some.ensures.found in
    let t = begun_turn shown c.args.start.now c.loop-entry.at pairs c.in-Some.entry
    (c.meets_each.ensures pairs c.requires.ordered) found in
    let says = begun_each (λ p. (r : Bool) → goal.F-post g c.args.see.now p.1 r → r ≡ shown p.1) c.args.start.now
    c.loop-entry.at pairs c.in-Some.entry sees found in
    let seen : shown c.in-Some.entry.1 ≡ true =
    sym (says c.see.result (rw (sym c.number.ensures) c.see.ensures)) ∙ c.if-see.true in
    (sym (t.hit seen).0 ∙ inv.answer shown sees, omega (arith, (t.hit seen).1, inv.met shown sees), omega arith)

pub returns-clause-scan : goal.returns-clause-scan
returns-clause-scan g c = λ shown sees.
    let inv = c.loop-entry.invariant in
    let found = rw inv.pairs at c.in_default.ensures.found in
    let t = at_end shown _ found in
    (sym t.0 ∙ inv.answer shown sees, omega (arith, t.1, inv.met shown sees), omega arith)
