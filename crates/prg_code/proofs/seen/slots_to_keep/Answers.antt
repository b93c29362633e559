use Rattle.std.proofs.Common.{None}
use Rattle.prg_code.proofs.Remembering.{one_less}
use Rattle.prg_code.proofs.seen.slots_to_keep.Goals as goal

pub loop-last-preserved : goal.loop-last-preserved
loop-last-preserved c =
    one_less None c.loop-last.kept.now c.args.kinds.now c.in-Some.last.now c.in-Some.others.now c.loop-last.invariant
    c.in-Some.ensures.cases.0
    (c.is_unknown.ensures c.if-not-is_unknown.false)
