use Rattle.std.proofs.Common.{List, true, ap, subst, ◌∙◌}
use Rattle.std.specs.Fn.{FnReturnsAt}
use Rattle.std.specs.List.{Contains}
use Rattle.key_lists.specs.Order.{Each}
use Rattle.key_lists.specs.Pairs.{Pair}
use Rattle.key_lists.specs.SortedList.{SortedList}
use Rattle.key_lists.proofs.sorted_keys.SortedKeysKeyList.all.Goals as goal

pub returns-clause-all : goal.returns-clause-all
returns-clause-all g c = λ said.
    subst (λ (ps : List Pair). Each (λ p. FnReturnsAt g.F.Fn c.args.test.now p true) ps)
    (c.deref.ensures.value ∙ ap (λ (v : SortedList). v.pairs) c.self.view_is) (c.all_hold.ensures.all said)

pub returns-clause-one : goal.returns-clause-one
returns-clause-one g c = λ said.
    let one = c.all_hold.ensures.one said in (
      one.0,
      subst (λ (ps : List Pair). Contains ps one.0)
          (c.deref.ensures.value ∙ ap (λ (v : SortedList). v.pairs) c.self.view_is) one.1,
      one.2,
    )
