use Rattle.std.proofs.Common.{◌≡◌, ◌+◌, ◌<◌, length, set, sym, subst, arith, rules, refl}
use Rattle.row_keys.specs.Lists.{kept_rows}
use Rattle.open_table.specs.Slots.{SlotState, IsSlot, PutsBy, Prepares, Along}
use Rattle.open_table.proofs.SlotLemmas.{turned, turned_weaker, taken, ended, ended_early}
use Rattle.open_table.proofs.slots.prepare_all.Goals as goal

itself : (a : SlotState) → PutsBy a a
itself a = record { same = record { number = refl; parts = refl; text = refl }; index = refl }

pub prepare-requires : goal.prepare-requires
prepare-requires g c =
    let i = c.loop-slot.slot-index in
    let s = c.args.table.now.structure in
    let within : i < length c.args.slots.now.items = omega (arith, c.loop-slot.invariant.len) in
    let same = c.loop-slot.invariant.left i c.slot-item.result (omega arith) (omega arith) in
    let h = subst (IsSlot s c.args.table.now.rows) (sym same) (c.requires.exact i c.slot-item.result within) in
    record { few = c.requires.few; key = h.key; key_text = h.text; idle = h.idle }

pub loop-slot-preserved : goal.loop-slot-preserved
loop-slot-preserved g c =
    let R = Prepares c.args.table.now.structure (kept_rows c.args.kept c.args.table.now.rows) c.args.list.now
    c.args.only_stale in
    turned R c.args.slots.now.items c.loop-slot.slot-items c.loop-slot.slot-index c.slot-item.result c.prepare.new.self
    c.loop-slot.invariant (omega arith) c.in_ok-prepare.ensures.ok

pub returns-in_err-prepare-clause-puts : goal.returns-in_err-prepare-clause-puts
returns-in_err-prepare-clause-puts g c =
    let R = Prepares c.args.table.now.structure (kept_rows c.args.kept c.args.table.now.rows) c.args.list.now
    c.args.only_stale in
    let old = c.args.slots.now.items in
    let items = set c.loop-slot.slot-items c.loop-slot.slot-index c.prepare.new.self in
    let so_far = turned_weaker R PutsBy (λ a b r. r.puts) old c.loop-slot.slot-items c.loop-slot.slot-index
    c.loop-slot.invariant in
    let gone = turned PutsBy old c.loop-slot.slot-items c.loop-slot.slot-index c.slot-item.result c.prepare.new.self
    so_far (omega arith) c.in_err-prepare.ensures.puts in
    let size : c.args.slots.now.len ≡ length old = search rules in
    subst (Along PutsBy old) (sym (taken old items c.args.slots.now.len gone.len size))
    (ended_early PutsBy itself old items (c.loop-slot.slot-index + 1) gone)

pub returns-clause-puts : goal.returns-clause-puts
returns-clause-puts g c =
    let R = Prepares c.args.table.now.structure (kept_rows c.args.kept c.args.table.now.rows) c.args.list.now
    c.args.only_stale in
    let old = c.args.slots.now.items in
    let items = c.loop-slot.slot-items in
    let so_far = turned_weaker R PutsBy (λ a b r. r.puts) old items c.loop-slot.slot-index c.loop-slot.invariant in
    let size : c.args.slots.now.len ≡ length old = search rules in
    subst (Along PutsBy old) (sym (taken old items c.args.slots.now.len so_far.len size))
    (ended PutsBy old items c.loop-slot.slot-index so_far (omega (arith, so_far.len)))

pub returns-clause-ok : goal.returns-clause-ok
returns-clause-ok g c =
    let R = Prepares c.args.table.now.structure (kept_rows c.args.kept c.args.table.now.rows) c.args.list.now
    c.args.only_stale in
    let old = c.args.slots.now.items in
    let items = c.loop-slot.slot-items in
    let size : c.args.slots.now.len ≡ length old = search rules in
    subst (Along R old) (sym (taken old items c.args.slots.now.len c.loop-slot.invariant.len size))
    (ended R old items c.loop-slot.slot-index c.loop-slot.invariant (omega (arith, c.loop-slot.invariant.len)))
