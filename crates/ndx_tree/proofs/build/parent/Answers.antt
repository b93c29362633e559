use Rattle.std.proofs.Common.{◌≡◌, ◌-◌, ◌<◌, List, length, drop, subst, sym, ap, ◌∙◌, arith}
use Rattle.std.specs.Vec.{vec_len}
use Rattle.key_rows.specs.Flat.{HaveKeys}
use Rattle.ndx_tree.specs.Levels.{IsAbove}
use Rattle.key_lists.specs.Order.{Each}
use Rattle.ndx_tree.specs.Pages.{PageView, IsCut, pairs_of_pages}
use Rattle.ndx_tree.proofs.Cut.{cut_length}
use Rattle.ndx_tree.proofs.Keyed.{entries_room}
use Rattle.ndx_tree.proofs.Building.{are_last, children_some, parent_page, is_above}
use Rattle.ndx_tree.proofs.build.parent.Goals as goal

pub separate-requires-clause-filled : goal.separate-requires-clause-filled
separate-requires-clause-filled c =
    let is : c.move_tail.new.to.items ≡ drop (vec_len c.args.row.now - c.args.count) c.args.row.now.items =
    c.move_tail.ensures.moved ∙ ap (λ k. drop (k - c.args.count) c.args.row.now.items) c.len.ensures in
    let last = are_last c.requires.level.0 c.args.most c.requires.keyed.key_length c.args.count
    (vec_len c.args.row.now - c.args.count) c.args.row.now.items c.move_tail.new.to.items is
    (omega (arith, c.requires.within)) c.requires.level.1 c.requires.rising c.requires.keyed.keys in
    subst (Each (λ (p : PageView). 0 < length p.pairs)) (sym c.deref.ensures.value)
    (children_some c.requires.level.0 c.args.most c.move_tail.new.to.items last.children)

pub separate-requires-clause-keyed : goal.separate-requires-clause-keyed
separate-requires-clause-keyed c =
    let is : c.move_tail.new.to.items ≡ drop (vec_len c.args.row.now - c.args.count) c.args.row.now.items =
    c.move_tail.ensures.moved ∙ ap (λ k. drop (k - c.args.count) c.args.row.now.items) c.len.ensures in
    let k = c.requires.keyed.key_length in
    let last = are_last c.requires.level.0 c.args.most k c.args.count (vec_len c.args.row.now - c.args.count)
    c.args.row.now.items c.move_tail.new.to.items is (omega (arith, c.requires.within)) c.requires.level.1
    c.requires.rising c.requires.keyed.keys in
    let number : length c.deref.result.now ≡ c.args.count =
    ap (λ (m : List PageView). length m) c.deref.ensures.value ∙ last.number in (
      k,
      subst (λ (m : List PageView). HaveKeys k (pairs_of_pages m)) (sym c.deref.ensures.value) last.keyed,
      entries_room c.args.most k (length c.deref.result.now) _ (omega (arith, c.requires.most.0))
          c.requires.keyed.fits (omega (arith, number, c.requires.full)) c.in_ok-entries.ensures.blank.entry_room,
    )

pub of_parts-requires-clause-parts : goal.of_parts-requires-clause-parts
of_parts-requires-clause-parts c =
    let is : c.move_tail.new.to.items ≡ drop (vec_len c.args.row.now - c.args.count) c.args.row.now.items =
    c.move_tail.ensures.moved ∙ ap (λ k. drop (k - c.args.count) c.args.row.now.items) c.len.ensures in
    let last = are_last c.requires.level.0 c.args.most c.requires.keyed.key_length c.args.count
    (vec_len c.args.row.now - c.args.count) c.args.row.now.items c.move_tail.new.to.items is
    (omega (arith, c.requires.within)) c.requires.level.1 c.requires.rising c.requires.keyed.keys in
    let cut : IsCut c.separate.new.row.items c.move_tail.new.to.items =
    subst (IsCut c.separate.new.row.items) c.deref.ensures.value c.separate.ensures.cut in
    parent_page c.requires.level.0 c.args.most c.requires.keyed.key_length c.args.count c.separate.new.row.items
    c.move_tail.new.to.items last cut c.requires.most.0 c.requires.two

pub of_parts-requires-clause-full : goal.of_parts-requires-clause-full
of_parts-requires-clause-full c =
    let is : c.move_tail.new.to.items ≡ drop (vec_len c.args.row.now - c.args.count) c.args.row.now.items =
    c.move_tail.ensures.moved ∙ ap (λ k. drop (k - c.args.count) c.args.row.now.items) c.len.ensures in
    let last = are_last c.requires.level.0 c.args.most c.requires.keyed.key_length c.args.count
    (vec_len c.args.row.now - c.args.count) c.args.row.now.items c.move_tail.new.to.items is
    (omega (arith, c.requires.within)) c.requires.level.1 c.requires.rising c.requires.keyed.keys in
    let cut : IsCut c.separate.new.row.items c.move_tail.new.to.items =
    subst (IsCut c.separate.new.row.items) c.deref.ensures.value c.separate.ensures.cut in
    omega (arith, cut_length c.separate.new.row.items c.move_tail.new.to.items cut, last.number, c.requires.full)

pub returns-clause-above : goal.returns-clause-above
returns-clause-above c =
    let is : c.move_tail.new.to.items ≡ drop (vec_len c.args.row.now - c.args.count) c.args.row.now.items =
    c.move_tail.ensures.moved ∙ ap (λ k. drop (k - c.args.count) c.args.row.now.items) c.len.ensures in
    let last = are_last c.requires.level.0 c.args.most c.requires.keyed.key_length c.args.count
    (vec_len c.args.row.now - c.args.count) c.args.row.now.items c.move_tail.new.to.items is
    (omega (arith, c.requires.within)) c.requires.level.1 c.requires.rising c.requires.keyed.keys in
    let cut : IsCut c.separate.new.row.items c.move_tail.new.to.items =
    subst (IsCut c.separate.new.row.items) c.deref.ensures.value c.separate.ensures.cut in
    subst (λ (m : List PageView). IsAbove c.args.most m c.of_parts.result) is
    (is_above c.requires.level.0 c.args.most c.requires.keyed.key_length c.args.count c.separate.new.row.items
    c.move_tail.new.to.items c.of_parts.result last cut c.of_parts.ensures)
