use Rattle.std.proofs.Common.{subst}
use Rattle.key_lists.specs.Order.{Each}
use Rattle.ndx_tree.specs.Blanks.{IsInnerBlank}
use Rattle.ndx_tree.proofs.BlankLemmas.{each_last}
use Rattle.ndx_tree.proofs.page.take_inner.Goals as goal

pub returns-clause-blank : goal.returns-clause-blank
returns-clause-blank c = (each_last (IsInnerBlank c.args.most) _ _
    (subst (Each (IsInnerBlank c.args.most)) c.in-Some.ensures.items c.requires.pool.inner)).1

pub returns-clause-pool : goal.returns-clause-pool
returns-clause-pool c = record {
  leaves = c.requires.pool.leaves;
  inner =
      (each_last (IsInnerBlank c.args.most) _ _
      (subst (Each (IsInnerBlank c.args.most)) c.in-Some.ensures.items c.requires.pool.inner)).0;
}
