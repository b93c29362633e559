use Rattle.std.proofs.Common.{ap, ◌∙◌, ◌∷◌}
use Rattle.xvalue.specs.declared.kind.Kind.{Kind}
use Rattle.run_values.proofs.Keeping.{kept, stands_for, given, one_more_kind}
use Rattle.run_values.proofs.tagged.TaggedValues.push_lent.Goals as goal

pub invariant_of-self : goal.invariant_of-self
invariant_of-self c =
    let t = c.requires.0 in
    let k = given _ _ _ _ t c.self.view_is c.self.invariant c.requires.1.0 in
    kept _ _ _ _ (one_more_kind _ _ _ _ _ t c.args.value.now k (c.push_lent.ensures.stands t k.stands) (c.push.ensures
    ∙ ap (λ (k : Kind). k ∷ c.self.inside.stack) c.kind.ensures))

pub returns-clause-stands : goal.returns-clause-stands
returns-clause-stands c = λ t s.
    let k = given _ _ _ _ t c.self.view_is c.self.invariant s in
    stands_for _ _ _ _ (one_more_kind _ _ _ _ _ t c.args.value.now k (c.push_lent.ensures.stands t k.stands)
    (c.push.ensures ∙ ap (λ (k : Kind). k ∷ c.self.inside.stack) c.kind.ensures))
