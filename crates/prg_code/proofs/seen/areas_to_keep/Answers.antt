use Rattle.code_items.specs.declared.desk.AreaState.TheVariants.{Closed}
use Rattle.prg_code.proofs.Remembering.{one_less}
use Rattle.prg_code.proofs.seen.areas_to_keep.Goals as goal

pub loop-last-preserved : goal.loop-last-preserved
loop-last-preserved c =
    one_less Closed c.loop-last.kept.now c.args.areas.now c.in-Some.last.now c.in-Some.others.now c.loop-last.invariant
    c.in-Some.ensures.cases.0
    (c.is_closed.ensures c.if-not-is_closed.false)
