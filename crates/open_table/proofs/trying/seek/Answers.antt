use Rattle.std.proofs.Common.{◌≡◌, Option, Some, get_or, sym, ap, ◌∙◌, subst, rules}
use Rattle.row_keys.specs.Lists.{index_list}
use Rattle.row_moves.specs.Moves.{IsMove, sought}
use Rattle.open_table.specs.Marks.{IndexMark, parts_in}
use Rattle.open_table.specs.Slots.{SlotState, mark_of}
use Rattle.open_table.proofs.TryingLemmas.{in_list}
use Rattle.open_table.proofs.trying.seek.Goals as goal

pub seek-requires-clause-callable : goal.seek-requires-clause-callable
seek-requires-clause-callable g c = λ p there.
    let within = in_list c.index_lists.ensures c.index_mut.result.now.parts c.args.table.now.rows p there in
    (c.requires.callable, (c.requires.indexed.few, within))

pub returns-clause-lands : goal.returns-clause-lands
returns-clause-lands g c = λ shown sees.
    let slots = c.args.slots.now.items in
    let slot : SlotState = c.index_mut.result.now in
    let at : get_or slots c.place_of-place.result slot ≡ slot = search rules in
    let found = c.place_of-place.ensures.here slot ∙ ap (λ (s : SlotState). Some (mark_of s)) at in
    subst (λ (m : Option IndexMark). IsMove (sought shown c.args.exact c.args.text.now
    (index_list (parts_in m) c.args.table.now.rows)) c.args.budget c.seek.result) (sym found)
    (c.seek.ensures.lands shown (λ p there r answer. answer shown sees))
