use Rattle.run_values.proofs.Keeping.{kept, stands_for, given, stored_kind}
use Rattle.run_values.proofs.tagged.TaggedValues.store.Goals as goal

pub invariant_of-self : goal.invariant_of-self
invariant_of-self c =
    let t = c.requires.0 in
    let k = given _ _ _ _ t c.self.view_is c.self.invariant c.requires.1.0 in
    kept _ _ _ _ (stored_kind _ _ _ _ _ t c.args.slot c.args.kind k c.requires.1.1
    (c.store.ensures.stands t k.stands c.requires.1.1) c.drop_top.ensures)

pub returns-clause-stands : goal.returns-clause-stands
returns-clause-stands c = λ t s h.
    let k = given _ _ _ _ t c.self.view_is c.self.invariant s in
    stands_for _ _ _ _ (stored_kind _ _ _ _ _ t c.args.slot c.args.kind k h
    (c.store.ensures.stands t k.stands h) c.drop_top.ensures)
