use Rattle.std.proofs.Common.{◌≡◌, ◌+◌, ◌-◌, ◌*◌, ◌≤◌, Some, length, get_or, subst, sym, ◌∙◌, arith}
use Rattle.key_rows.specs.Flat.{HaveKeys}
use Rattle.key_lists.specs.Rising.{last_of}
use Rattle.ndx_tree.specs.Pages.{PageView}
use Rattle.ndx_tree.proofs.Keyed.{last_keyed, cut_keyed, child_keyed}
use Rattle.ndx_tree.proofs.Building.{cut_more, front_keyed, room_more, separators, insert_end}
use Rattle.ndx_tree.proofs.build.separate.Goals as goal

pub put-requires-clause-within : goal.put-requires-clause-within
put-requires-clause-within c =
    omega (arith, separators c.loop-at.row.items c.args.children.now c.loop-at.at (omega arith) c.loop-at.invariant.cut)

pub put-requires-clause-alike : goal.put-requires-clause-alike
put-requires-clause-alike c =
    let k = c.requires.keyed.0 in
    let d = c.index-children-at.result in
    let key : length c.last_pair-last.result.0 ≡ k = last_keyed k d.pairs c.last_pair-last.result
    (subst (λ (v : PageView). HaveKeys k v.pairs) (sym c.index-children-at.is)
    (child_keyed k c.args.children.now (c.loop-at.at - 1) d (omega arith) c.requires.keyed.1))
    c.last_pair-last.ensures.found in
    subst (λ j. HaveKeys j c.loop-at.row.items) (sym key)
    (cut_keyed k c.loop-at.row.items _ c.loop-at.invariant.cut
    (front_keyed k c.loop-at.at c.args.children.now c.requires.keyed.1))

pub put-requires-clause-room : goal.put-requires-clause-room
put-requires-clause-room c =
    let k = c.requires.keyed.0 in
    let d = c.index-children-at.result in
    let key : length c.last_pair-last.result.0 ≡ k = last_keyed k d.pairs c.last_pair-last.result
    (subst (λ (v : PageView). HaveKeys k v.pairs) (sym c.index-children-at.is)
    (child_keyed k c.args.children.now (c.loop-at.at - 1) d (omega arith) c.requires.keyed.1))
    c.last_pair-last.ensures.found in
    let number = separators c.loop-at.row.items c.args.children.now c.loop-at.at (omega arith)
    c.loop-at.invariant.cut in
    subst (λ j. (length c.loop-at.row.items + 1) * (j + 4) ≤ c.loop-at.row.room) (sym key)
    (room_more (length c.loop-at.row.items) (length c.args.children.now) k c.args.row.now.room c.loop-at.row.room
    (omega (arith, number)) c.requires.keyed.2 c.loop-at.invariant.room)

pub loop-at-preserved : goal.loop-at-preserved
loop-at-preserved c =
    let d = c.index-children-at.result in
    let number = separators c.loop-at.row.items c.args.children.now c.loop-at.at (omega arith)
    c.loop-at.invariant.cut in
    let found : last_of (get_or c.args.children.now (c.loop-at.at - 1) d).pairs
    ≡ Some c.last_pair-last.result = subst (λ (v : PageView). last_of v.pairs ≡ Some c.last_pair-last.result)
    c.index-children-at.is c.last_pair-last.ensures.found in
    record {
      cut = cut_more c.loop-at.row.items c.put.new.self.items c.args.children.now c.loop-at.at d c.last_pair-last.result
          (omega (arith, number)) (omega arith) c.loop-at.invariant.cut found
          (c.put.ensures.items ∙ insert_end c.loop-at.row.items (c.loop-at.at - 1) c.last_pair-last.result
          (omega (arith, number)));
      room = omega (arith, c.loop-at.invariant.room, c.put.ensures.room);
    }
