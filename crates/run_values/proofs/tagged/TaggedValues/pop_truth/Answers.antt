use Rattle.run_values.proofs.Keeping.{kept, stands_for, given, fewer_kinds}
use Rattle.run_values.proofs.tagged.TaggedValues.pop_truth.Goals as goal

pub invariant_of-self : goal.invariant_of-self
invariant_of-self c =
    let t = c.requires.0 in
    let k = given _ _ _ _ t c.self.view_is c.self.invariant c.requires.1.0 in
    kept _ _ _ _ (fewer_kinds _ _ _ _ _ t 1 k
    (c.pop_truth.ensures.stands t k.stands c.requires.1.1).1 c.drop_top.ensures)

pub returns-clause-stands : goal.returns-clause-stands
returns-clause-stands c = λ t s h.
    let k = given _ _ _ _ t c.self.view_is c.self.invariant s in (
      (c.pop_truth.ensures.stands t k.stands h).0,
      stands_for _ _ _ _ (fewer_kinds _ _ _ _ _ t 1 k
          (c.pop_truth.ensures.stands t k.stands h).1 c.drop_top.ensures),
    )
