use Rattle.std.proofs.Common.{◌+◌, ◌<◌, ◌++◌, ◌∷◌, [], ◌≡◌, List, true, length, take, sym, ap, ◌∙◌, subst, arith}
use Rattle.std.proofs.lemmas.Fn.{says_at}
use Rattle.std.proofs.lemmas.List.{take_all, take_more}
use Rattle.std.specs.Fn.{FnReturnsAt}
use Rattle.key_lists.specs.Order.{Each}
use Rattle.key_lists.specs.Pairs.{Pair}
use Rattle.key_lists.proofs.Ordered.{Each-append}
use Rattle.key_rows.proofs.entries.Entries.all.Goals as goal

pub loop-at-preserved : goal.loop-at-preserved
loop-at-preserved g c =
    let items = c.args.self.now.items in
    let at = c.loop-at.at in
    let entry = c.get.result in
    let within : at < length items = omega arith in
    let more : take (at + 1) items ≡ take at items ++ entry ∷ [] =
    take_more items at entry within ∙ ap (λ (p : Pair). take at items ++ p ∷ []) (sym (c.get.ensures entry)) in
    subst (λ (ps : List Pair). Each (λ p. FnReturnsAt g.F.Fn c.args.test.now p true) ps) (sym more)
    (Each-append (λ p. FnReturnsAt g.F.Fn c.args.test.now p true) (take at items) (entry ∷ []) c.loop-at.invariant
    (says_at g.F.Fn c.test.ensures c.if-not-test.false, tt))

pub returns-then-not-test-clause-one : goal.returns-then-not-test-clause-one
returns-then-not-test-clause-one g c = λ _. (
  c.get.result,
  (c.loop-at.at, omega arith, sym (c.get.ensures c.get.result)),
  says_at g.F.Fn c.test.ensures c.if-not-test.true,
)

pub returns-clause-all : goal.returns-clause-all
returns-clause-all g c = λ _.
    subst (λ (ps : List Pair). Each (λ p. FnReturnsAt g.F.Fn c.args.test.now p true) ps)
    (take_all c.loop-at.at c.args.self.now.items (omega arith)) c.loop-at.invariant
