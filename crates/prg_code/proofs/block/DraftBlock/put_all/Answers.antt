use Rattle.std.proofs.Common.{◌∙◌}
use Rattle.prg_code.proofs.Growth.{put_next, more_block}
use Rattle.prg_code.proofs.block.DraftBlock.put_all.Goals as goal

pub loop-instr-preserved : goal.loop-instr-preserved
loop-instr-preserved c = record {
  put =
      put_next c.args.instrs.now c.loop-instr.instr-index _ c.loop-instr-test.true c.loop-instr.invariant.put
      c.in_ok-put.ensures.put;
  grown = more_block c.loop-instr.invariant.grown c.in_ok-put.ensures.grown;
  reached = c.in_ok-put.ensures.reached ∙ c.loop-instr.invariant.reached;
}
