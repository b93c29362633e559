use Rattle.std.proofs.Common.{◌≡◌, ◌<◌, length, sym, subst, arith, rules}
use Rattle.std.specs.Prelude.{IfSome}
use Rattle.dbf_file.specs.Rows.{with_text}
use Rattle.row_keys.specs.Lists.{HasFollowed, IsExact}
use Rattle.open_table.specs.Slots.{SlotState, GoesBy, Along}
use Rattle.open_table.proofs.SlotLemmas.{turned, taken, ended}
use Rattle.open_table.proofs.slots.follow_all.Goals as goal

pub follow-requires-clause-exact : goal.follow-requires-clause-exact
follow-requires-clause-exact g c =
    let i = c.loop-slot.slot-index in
    let within : i < length c.args.slots.now.items = omega (arith, c.loop-slot.invariant.len) in
    let same = c.loop-slot.invariant.left i c.slot-item.result (omega arith) (omega arith) in
    subst (λ (x : SlotState). IfSome x.index
    (IsExact c.args.table.now.structure (with_text c.args.table.now.rows c.args.r c.args.f c.args.before.now) x.parts))
    (sym same) (c.requires.exact i c.slot-item.result within)

pub follow-requires-clause-reserved : goal.follow-requires-clause-reserved
follow-requires-clause-reserved g c =
    let i = c.loop-slot.slot-index in
    let within : i < length c.args.slots.now.items = omega (arith, c.loop-slot.invariant.len) in
    let same = c.loop-slot.invariant.left i c.slot-item.result (omega arith) (omega arith) in
    subst (λ (x : SlotState). IfSome x.index (λ x. 0 < x.spare)) (sym same)
    (c.requires.reserved i c.slot-item.result within)

pub loop-slot-preserved : goal.loop-slot-preserved
loop-slot-preserved g c = turned (GoesBy (HasFollowed c.args.table.now.structure c.args.table.now.rows))
    c.args.slots.now.items c.loop-slot.slot-items c.loop-slot.slot-index c.slot-item.result c.follow.new.self
    c.loop-slot.invariant (omega arith) c.follow.ensures

pub returns : goal.returns
returns g c =
    let old = c.args.slots.now.items in
    let items = c.loop-slot.slot-items in
    let size : c.args.slots.now.len ≡ length old = search rules in
    subst (Along (GoesBy (HasFollowed c.args.table.now.structure c.args.table.now.rows)) old)
    (sym (taken old items c.args.slots.now.len c.loop-slot.invariant.len size))
    (ended (GoesBy (HasFollowed c.args.table.now.structure c.args.table.now.rows)) old items c.loop-slot.slot-index
    c.loop-slot.invariant (omega (arith, c.loop-slot.invariant.len)))
