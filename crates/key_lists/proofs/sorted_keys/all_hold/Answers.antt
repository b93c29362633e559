use Rattle.std.proofs.Common.{List, true, refl, sym, subst}
use Rattle.std.proofs.lemmas.Fn.{says_at}
use Rattle.std.proofs.lemmas.List.{nil_from_length}
use Rattle.std.specs.Fn.{FnReturnsAt}
use Rattle.std.specs.List.{Contains}
use Rattle.key_lists.specs.Order.{Each}
use Rattle.key_lists.specs.Pairs.{Pair}
use Rattle.key_lists.proofs.Members.{Contains-here, Contains-later}
use Rattle.key_lists.proofs.sorted_keys.all_hold.Goals as goal

pub loop-entry-preserved : goal.loop-entry-preserved
loop-entry-preserved g c =
    let entry = c.in-Some.entry.now in
    let others = c.in-Some.others.now in
    let whole = sym c.in-Some.ensures.cases.0 in
    record {
      all = λ h. c.loop-entry.invariant.all
          (subst (λ (ps : List Pair). Each (λ p. FnReturnsAt g.F.Fn c.args.test.now p true) ps) whole
          (says_at g.F.Fn c.test.ensures c.if-not-test.false, h));
      there = λ p h. c.loop-entry.invariant.there p
          (subst (λ (ps : List Pair). Contains ps p) whole (Contains-later entry others p h));
    }

pub returns-then-not-test-clause-one : goal.returns-then-not-test-clause-one
returns-then-not-test-clause-one g c = λ _.
    let entry = c.in-Some.entry.now in (
      entry,
      c.loop-entry.invariant.there entry (subst (λ (ps : List Pair). Contains ps entry)
          (sym c.in-Some.ensures.cases.0) (Contains-here entry c.in-Some.others.now entry refl)),
      says_at g.F.Fn c.test.ensures c.if-not-test.true,
    )

pub returns-clause-all : goal.returns-clause-all
returns-clause-all g c = λ _. c.loop-entry.invariant.all
    (subst (λ (ps : List Pair). Each (λ p. FnReturnsAt g.F.Fn c.args.test.now p true) ps)
    (sym (nil_from_length _ c.in_default.ensures.cases)) tt)
