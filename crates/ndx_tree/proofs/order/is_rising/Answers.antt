use Rattle.std.proofs.Common.{◌∙◌, sym, arith}
use Rattle.std.proofs.lemmas.Bool.{false≢true}
use Rattle.ndx_tree.proofs.Between.{row_step, row_there}
use Rattle.ndx_tree.proofs.order.is_rising.Goals as goal

pub returns-then-not-is_below : goal.returns-then-not-is_below
returns-then-not-is_below c = (
  λ e. absurd (false≢true e),
  λ r. absurd
      (false≢true (sym c.if-not-is_below.true ∙ row_there c.args.entries.now.items c.loop-index.index c.key.result.now
      c.from-number.result c.is_below.result c.loop-index.invariant.some (omega arith) c.key.ensures.value
      (λ d. c.from-number.ensures ∙ c.number.ensures d) c.is_below.ensures r)),
)

pub loop-index-preserved : goal.loop-index-preserved
loop-index-preserved c =
    record {
      rising = row_step c.args.entries.now.items c.loop-index.index c.key.result.now c.from-number.result
          c.is_below.result c.loop-index.invariant.some (omega arith) c.key.ensures.value
          (λ d. c.from-number.ensures ∙ c.number.ensures d) c.is_below.ensures c.loop-index.invariant.rising
          c.if-not-is_below.false;
      some = omega arith;
    }
