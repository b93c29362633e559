use Rattle.std.proofs.Common.{rules, ◌≡◌, None, get_or, sym, ◌∙◌, subst}
use Rattle.std.proofs.lemmas.List.{get_or_default}
use Rattle.std.specs.Prelude.{IfSome}
use Rattle.work_area.specs.Making.{key_form}
use Rattle.work_area.proofs.handed.are_lists.Goals as goal

pub returns-then-not-is_formed : goal.returns-then-not-is_formed
returns-then-not-is_formed g c = (
  search rules,
  λ h.
      let e : get_or c.args.keys.now.items c.loop-n.n None ≡ c.index.result.now = get_or_default c.args.keys.now.items
      c.loop-n.n None c.index.result.now (search rules) ∙ sym c.index.ensures in
      let formed = c.is_formed.ensures.1
      (λ x s index table. subst (λ l. IfSome l (λ k. g.K.KeyList.form k ≡ key_form s x)) e
      (h.formed c.loop-n.n x s index table)) in
      absurd (search rules),
)
