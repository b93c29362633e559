use Rattle.std.proofs.Common.{◌<◌, arith, length, add-one}
use Rattle.tagged_machine.proofs.Filled.{as_long, area_filled}
use Rattle.tagged_machine.proofs.areas.TenAreas.show.Goals as goal

pub loop-number-preserved : goal.loop-number-preserved
loop-number-preserved g c =
    let i = c.loop-number.invariant in
    let n = c.loop-number.number in
    let s = c.args.store.now in
    let there : n < length s.areas = search arith in
    let room : n < length c.loop-number.self-inside.desk.areas = search arith in
    rw add-one (record {
      selected = i.selected;
      long = as_long _ _ _ _ i.long c.set.ensures;
      filled = area_filled s _ _ n _ _ room there i.filled c.from.ensures c.area_seen.ensures c.set.ensures;
    })
