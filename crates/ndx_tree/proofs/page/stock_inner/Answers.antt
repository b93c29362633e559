use Rattle.std.proofs.Common.{subst, sym, arith}
use Rattle.key_lists.specs.Order.{Each}
use Rattle.ndx_tree.specs.Blanks.{IsInnerBlank}
use Rattle.ndx_tree.proofs.BlankLemmas.{each_more}
use Rattle.ndx_tree.proofs.page.stock_inner.Goals as goal

pub loop-count-preserved : goal.loop-count-preserved
loop-count-preserved c = record {
  blank = subst (Each (IsInnerBlank c.args.most)) (sym c.in_ok-push.ensures.items)
      (each_more (IsInnerBlank c.args.most) _ _ c.loop-count.invariant.blank c.in_ok-inner.ensures);
  enough = omega (arith, c.in_ok-push.ensures);
  kept = omega (arith, c.in_ok-push.ensures, c.loop-count.invariant.kept);
}
