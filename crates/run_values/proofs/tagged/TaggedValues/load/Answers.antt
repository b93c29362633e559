use Rattle.run_values.proofs.Keeping.{kept, stands_for, given, loaded_kind}
use Rattle.run_values.proofs.tagged.TaggedValues.load.Goals as goal

pub invariant_of-self : goal.invariant_of-self
invariant_of-self c =
    let t = c.requires.0 in
    let k = given _ _ _ _ t c.self.view_is c.self.invariant c.requires.1.0 in
    kept _ _ _ _ (loaded_kind _ _ _ _ _ t c.args.slot c.args.kind k c.requires.1.1
    (c.load.ensures.stands t k.stands c.requires.1.1) c.push.ensures)

pub returns-clause-stands : goal.returns-clause-stands
returns-clause-stands c = λ t s h.
    let k = given _ _ _ _ t c.self.view_is c.self.invariant s in
    stands_for _ _ _ _ (loaded_kind _ _ _ _ _ t c.args.slot c.args.kind k h
    (c.load.ensures.stands t k.stands h) c.push.ensures)
