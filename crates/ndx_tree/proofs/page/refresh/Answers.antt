use Rattle.std.proofs.Common.{◌≡◌, ◌+◌, ◌-◌, ◌*◌, ◌∙◌, ap, subst, sym, arith, length, ◌≤◌, List, [], get_or}
use Rattle.std.proofs.lemmas.List.{set_past}
use Rattle.key_lists.specs.Pairs.{Pair, is_before}
use Rattle.ndx_tree.specs.Pages.{PageView, IsCut, view_of}
use Rattle.key_rows.specs.Flat.{HaveKeys}
use Rattle.ndx_tree.proofs.Keyed.{last_keyed, child_keyed}
use Rattle.ndx_tree.proofs.Remove.{last_index}
use Rattle.ndx_tree.proofs.page.refresh.Goals as goal

pub returns-then-at-len-clause-cut : goal.returns-then-at-len-clause-cut
returns-then-at-len-clause-cut c =
    let page : PageView = view_of 0 [] [] in
    let pairs = (get_or c.args.children.now c.args.at page).pairs in
    let last : Pair = get_or pairs (length pairs - 1) ([], 0) in
    subst (λ (m : List Pair). IsCut m c.args.children.now)
    (set_past c.args.entries.now.items c.args.at last (omega arith))
    (c.requires.cut page last (last_index pairs ([], 0) (c.requires.some page)))

pub returns-then-is_after-clause-cut : goal.returns-then-is_after-clause-cut
returns-then-is_after-clause-cut c =
    c.requires.kept c.get.result (omega arith)
    (ap (is_before (c.args.key.now, c.args.number)) (sym (c.get.ensures c.get.result)) ∙ sym c.is_after.ensures
    ∙ c.if-is_after.true)

pub set-requires-clause-alike : goal.set-requires-clause-alike
set-requires-clause-alike c =
    let k = c.requires.alike.0 in
    let d = c.index-children-at.result in
    let last = c.last_pair-last.result in
    let size : length last.0 ≡ k = last_keyed k d.pairs last
    (subst (λ (v : PageView). HaveKeys k v.pairs) (sym c.index-children-at.is)
    (child_keyed k c.args.children.now c.args.at d c.requires.within c.requires.alike.2))
    c.last_pair-last.ensures.found in
    subst (λ j. HaveKeys j c.args.entries.now.items) (sym size) c.requires.alike.1

pub set-requires-clause-room : goal.set-requires-clause-room
set-requires-clause-room c =
    let k = c.requires.alike.0 in
    let d = c.index-children-at.result in
    let last = c.last_pair-last.result in
    let size : length last.0 ≡ k = last_keyed k d.pairs last
    (subst (λ (v : PageView). HaveKeys k v.pairs) (sym c.index-children-at.is)
    (child_keyed k c.args.children.now c.args.at d c.requires.within c.requires.alike.2))
    c.last_pair-last.ensures.found in
    subst (λ j. length c.args.entries.now.items * (j + 4) ≤ c.args.entries.now.room) (sym size) c.requires.alike.3
