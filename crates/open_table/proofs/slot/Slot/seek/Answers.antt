use Rattle.std.proofs.Common.{◌≡◌, Some, IfSome, option_map, sym, ap, ◌∙◌, subst, rules}
use Rattle.key_lists.specs.SortedList.{SortedList}
use Rattle.row_keys.specs.Lists.{IsExact, index_list, list_by}
use Rattle.row_moves.specs.Orders.{Sees}
use Rattle.open_table.specs.Slots.{SlotState, IsListed}
use Rattle.open_table.proofs.slot.Slot.seek.Goals as goal

pub returns-clause-lands : goal.returns-clause-lands
returns-clause-lands g c = λ shown sees.
    let slot : SlotState = c.args.self.now in
    let rows = c.args.table.now.rows in
    let by = list_by g.K.KeyList.pairs g.K.KeyList.spare g.K.KeyList.form in
    let list : SortedList = by c.in-Some.keys in
    let there : slot.index ≡ Some list = ap (λ (s : SlotState). s.index) (sym c.self.view_is)
    ∙ ap (option_map by) c.in-Some.is in
    let listed = subst (λ i. IfSome i (IsListed (IsExact c.args.table.now.structure rows slot.parts) slot.text)) there
    c.requires.exact.listed in
    let same : list.pairs ≡ index_list slot.parts rows = listed.exact.pairs in
    let seen = subst (λ ps. Sees (goal.F-post g) c.args.see.now ps shown) (sym same) sees in
    search rules
