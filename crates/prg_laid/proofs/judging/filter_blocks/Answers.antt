use Rattle.std.proofs.Common.{List, length, sym, subst, ap, ◌∙◌, rules}
use Rattle.code_rules.specs.declared.blocks.Block.{Block}
use Rattle.prg_laid.specs.Whole.{AreFilters, IsFilterBlock}
use Rattle.prg_laid.proofs.Knowing.{one_longer, one_more}
use Rattle.prg_laid.proofs.judging.filter_blocks.Goals as goal

pub loop-number-preserved : goal.loop-number-preserved
loop-number-preserved c = record {
  many = ap length c.in_ok-push.ensures.items
      ∙ one_longer c.loop-number.filters.items c.block_at-block.result c.loop-number.number
      c.loop-number.invariant.many;
  are = subst (λ (bs : List Block). AreFilters c.args.code.now bs) (sym c.in_ok-push.ensures.items)
      (one_more (IsFilterBlock c.args.code.now) c.loop-number.filters.items c.block_at-block.result c.loop-number.number
      c.loop-number.invariant.many c.loop-number.invariant.are (c.is_filter_block.ensures (search rules)));
}
