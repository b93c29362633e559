use Rattle.std.proofs.Common.{◌≡◌, ◌-◌, Option, Some, get_or, option_map, sym, ap, ◌∙◌, subst, rules, arith}
use Rattle.dbf_file.specs.Rows.{row_at}
use Rattle.shape.specs.Keys.{key_of}
use Rattle.row_keys.specs.Lists.{index_list}
use Rattle.row_moves.specs.Moves.{IsMove, landing_of}
use Rattle.open_table.specs.Marks.{IndexMark, parts_in}
use Rattle.open_table.specs.Slots.{SlotState, mark_of}
use Rattle.open_table.specs.Tables.{IndexedState, indexed, order_pairs, pair_at}
use Rattle.open_table.proofs.TryingLemmas.{in_records, in_list}
use Rattle.open_table.proofs.trying.make_move.Goals as goal

pub make_move-requires-in-None : goal.make_move-requires-in-None
make_move-requires-in-None g c = λ p there.
    let within = in_records c.rows-count.result p there in
    (c.requires.callable, (c.requires.indexed.few, (within.0, omega (arith, within.1, c.rows-count.ensures.count))))

pub make_move-requires-clause-callable : goal.make_move-requires-clause-callable
make_move-requires-clause-callable g c = λ p there.
    let within = in_list c.index_lists.ensures c.index_mut.result.now.parts c.args.table.now.rows p there in
    (c.requires.callable, (c.requires.indexed.few, within))

pub returns-in-None-clause-lands : goal.returns-in-None-clause-lands
returns-in-None-clause-lands g c = λ shown sees.
    rw c.in-None.is (rw (sym c.rows-count.ensures.count)
    (c.make_move-in-None.ensures.lands shown (λ p there r answer. answer shown sees)))

pub returns-in-Some-clause-lands : goal.returns-in-Some-clause-lands
returns-in-Some-clause-lands g c = λ shown sees.
    let rows = c.args.table.now.rows in
    let slots = c.args.slots.now.items in
    let slot : SlotState = c.index_mut.result.now in
    let t : IndexedState = indexed c.args.table.now slots in
    let at : get_or slots c.place_of-place.result slot ≡ slot = search rules in
    let found = c.place_of-place.ensures.here slot ∙ ap (λ (s : SlotState). Some (mark_of s)) at in
    subst (λ o. IsMove (landing_of shown c.args.asked (pair_at o t c.args.pointer) (order_pairs o t)) c.args.budget
    c.make_move.result) (sym c.in-Some.is)
    (subst (λ (m : Option IndexMark). IsMove (landing_of shown c.args.asked
    (option_map (λ n. (key_of (parts_in m) (row_at rows (n - 1)).texts, n)) c.args.pointer)
    (index_list (parts_in m) rows)) c.args.budget c.make_move.result) (sym found)
    (c.make_move.ensures.lands shown (λ p there r answer. answer shown sees)))
