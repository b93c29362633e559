use Rattle.run_values.proofs.Keeping.{kept, stands_for, given, kinds_kept}
use Rattle.run_values.proofs.tagged.TaggedRegistered.set_number_register.Goals as goal

pub invariant_of-self : goal.invariant_of-self
invariant_of-self c =
    let k = c.self.invariant in
    kept _ _ _ _ (kinds_kept _ _ _ _ _ k (c.set_number_register.ensures.stands _ k.stands))

pub returns-clause-stands : goal.returns-clause-stands
returns-clause-stands c = λ t s.
    let k = given _ _ _ _ t c.self.view_is c.self.invariant s in
    stands_for _ _ _ _ (kinds_kept _ _ _ _ t k (c.set_number_register.ensures.stands t k.stands))
