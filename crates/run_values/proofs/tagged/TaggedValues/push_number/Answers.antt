use Rattle.xvalue.specs.declared.value.Value.TheVariants.{Number}
use Rattle.run_values.proofs.Keeping.{kept, stands_for, given, one_more_kind}
use Rattle.run_values.proofs.tagged.TaggedValues.push_number.Goals as goal

pub invariant_of-self : goal.invariant_of-self
invariant_of-self c =
    let t = c.requires.0 in
    let k = given _ _ _ _ t c.self.view_is c.self.invariant c.requires.1.0 in
    kept _ _ _ _ (one_more_kind _ _ _ _ _ t (Number c.args.number) k
    (c.push_number.ensures.stands t k.stands) c.push.ensures)

pub returns-clause-stands : goal.returns-clause-stands
returns-clause-stands c = λ t s.
    let k = given _ _ _ _ t c.self.view_is c.self.invariant s in
    stands_for _ _ _ _ (one_more_kind _ _ _ _ _ t (Number c.args.number) k
    (c.push_number.ensures.stands t k.stands) c.push.ensures)
