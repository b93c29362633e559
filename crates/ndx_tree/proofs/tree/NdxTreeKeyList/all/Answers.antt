use Rattle.std.proofs.Common.{true, subst}
use Rattle.std.specs.Fn.{FnReturnsAt}
use Rattle.std.specs.List.{Contains}
use Rattle.key_lists.specs.Order.{Each}
use Rattle.ndx_tree.specs.Trees.{TreeView}
use Rattle.ndx_tree.proofs.tree.NdxTreeKeyList.all.Goals as goal

pub returns-clause-all : goal.returns-clause-all
returns-clause-all g c = λ said.
    subst (λ (v : TreeView). Each (λ p. FnReturnsAt g.F.Fn c.args.test.now p true) v.pairs) c.self.view_is
    (c.all.ensures.all said)

pub returns-clause-one : goal.returns-clause-one
returns-clause-one g c = λ said.
    let one = c.all.ensures.one said in
    (one.0, subst (λ (v : TreeView). Contains v.pairs one.0) c.self.view_is one.1, one.2)
