use Rattle.std.proofs.Common.{◌≤◌}
use Rattle.std.specs.Vec.{vec_len}
use Rattle.key_lists.specs.Order.{Each}
use Rattle.ndx_tree.specs.Blanks.{IsInnerBlank}
use Rattle.ndx_tree.proofs.page.stock_inner.Given as goal

abbrev pub invariant-loop-count : goal.invariant-loop-count
invariant-loop-count l = record {
  blank : Each (IsInnerBlank l.most) l.inner.items;
  enough : l._count
      ≤ vec_len l.inner;
  kept : vec_len l.fn.inner ≤ vec_len l.inner;
}
