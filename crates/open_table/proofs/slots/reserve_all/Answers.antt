use Rattle.std.proofs.Common.{◌≡◌, ◌+◌, length, set, sym, subst, arith, rules, refl}
use Rattle.key_lists.specs.SortedList.{SortedList}
use Rattle.row_keys.specs.Lists.{IsAsBefore}
use Rattle.open_table.specs.Slots.{SlotState, GoesBy, HasRoomForPair, Along}
use Rattle.open_table.proofs.SlotLemmas.{turned, taken, ended, ended_early, room_turned, both_same}
use Rattle.open_table.proofs.slots.reserve_all.Goals as goal

kept : (a : SortedList) → IsAsBefore a a
kept a = record { form = refl; pairs = refl }

as_before : (a : SlotState) → GoesBy (λ parts. IsAsBefore) a a
as_before a = record {
  same = record { number = refl; parts = refl; text = refl };
  index = both_same IsAsBefore kept
      a.index;
  fresh = refl;
}

pub loop-slot-preserved : goal.loop-slot-preserved
loop-slot-preserved g c = record {
  same = turned (GoesBy (λ parts. IsAsBefore)) c.args.slots.now.items c.loop-slot.slot-items c.loop-slot.slot-index
      c.slot-item.result c.reserve.new.self c.loop-slot.invariant.same (omega arith) c.in_ok-reserve.ensures.same;
  room = room_turned (HasRoomForPair c.args.list.now) c.loop-slot.slot-items c.loop-slot.slot-index c.reserve.new.self
      c.loop-slot.invariant.room (omega arith) c.in_ok-reserve.ensures.ok;
}

pub returns-in_err-reserve-clause-same : goal.returns-in_err-reserve-clause-same
returns-in_err-reserve-clause-same g c =
    let old = c.args.slots.now.items in
    let items = set c.loop-slot.slot-items c.loop-slot.slot-index c.reserve.new.self in
    let gone = turned (GoesBy (λ parts. IsAsBefore)) old c.loop-slot.slot-items c.loop-slot.slot-index c.slot-item.result
    c.reserve.new.self c.loop-slot.invariant.same (omega arith) c.in_err-reserve.ensures.same in
    let size : c.args.slots.now.len ≡ length old = search rules in
    subst (Along (GoesBy (λ parts. IsAsBefore)) old) (sym (taken old items c.args.slots.now.len gone.len size))
    (ended_early (GoesBy (λ parts. IsAsBefore)) as_before old items (c.loop-slot.slot-index + 1) gone)

pub returns-clause-same : goal.returns-clause-same
returns-clause-same g c =
    let old = c.args.slots.now.items in
    let items = c.loop-slot.slot-items in
    let size : c.args.slots.now.len ≡ length old = search rules in
    subst (Along (GoesBy (λ parts. IsAsBefore)) old)
    (sym (taken old items c.args.slots.now.len c.loop-slot.invariant.same.len size))
    (ended (GoesBy (λ parts. IsAsBefore)) old items c.loop-slot.slot-index c.loop-slot.invariant.same
    (omega (arith, c.loop-slot.invariant.same.len)))
