use Rattle.std.proofs.Common.{◌≡◌, ◌<◌, length, sym, subst, arith, rules}
use Rattle.std.specs.List.{Contains}
use Rattle.std.specs.Prelude.{IfSome}
use Rattle.row_keys.specs.Lists.{HasAdded, IsIndexOf, row_pair}
use Rattle.open_table.specs.Slots.{SlotState, GoesBy, Along}
use Rattle.open_table.proofs.SlotLemmas.{turned, taken, ended}
use Rattle.open_table.proofs.slots.add_all.Goals as goal

pub add_row-requires-clause-index : goal.add_row-requires-clause-index
add_row-requires-clause-index g c =
    let i = c.loop-slot.slot-index in
    let within : i < length c.args.slots.now.items = omega (arith, c.loop-slot.invariant.len) in
    let same = c.loop-slot.invariant.left i c.slot-item.result (omega arith) (omega arith) in
    subst (λ (x : SlotState). IfSome x.index (IsIndexOf c.args.table.now.structure x.parts)) (sym same)
    (c.requires.index i c.slot-item.result within)

pub add_row-requires-clause-reserved : goal.add_row-requires-clause-reserved
add_row-requires-clause-reserved g c =
    let i = c.loop-slot.slot-index in
    let within : i < length c.args.slots.now.items = omega (arith, c.loop-slot.invariant.len) in
    let same = c.loop-slot.invariant.left i c.slot-item.result (omega arith) (omega arith) in
    subst (λ (x : SlotState). IfSome x.index (λ x. 0 < x.spare)) (sym same)
    (c.requires.reserved i c.slot-item.result within)

pub add_row-requires-clause-absent : goal.add_row-requires-clause-absent
add_row-requires-clause-absent g c =
    let i = c.loop-slot.slot-index in
    let within : i < length c.args.slots.now.items = omega (arith, c.loop-slot.invariant.len) in
    let same = c.loop-slot.invariant.left i c.slot-item.result (omega arith) (omega arith) in
    subst (λ (slot : SlotState). IfSome slot.index
    (λ x. ¬ Contains x.pairs (row_pair slot.parts c.args.table.now.rows c.args.r))) (sym same)
    (c.requires.absent i c.slot-item.result within)

pub loop-slot-preserved : goal.loop-slot-preserved
loop-slot-preserved g c = turned (GoesBy (HasAdded c.args.table.now.rows c.args.r)) c.args.slots.now.items
    c.loop-slot.slot-items c.loop-slot.slot-index c.slot-item.result c.add_row.new.self c.loop-slot.invariant
    (omega arith) c.add_row.ensures

pub returns : goal.returns
returns g c =
    let old = c.args.slots.now.items in
    let items = c.loop-slot.slot-items in
    let size : c.args.slots.now.len ≡ length old = search rules in
    subst (Along (GoesBy (HasAdded c.args.table.now.rows c.args.r)) old)
    (sym (taken old items c.args.slots.now.len c.loop-slot.invariant.len size))
    (ended (GoesBy (HasAdded c.args.table.now.rows c.args.r)) old items c.loop-slot.slot-index c.loop-slot.invariant
    (omega (arith, c.loop-slot.invariant.len)))
