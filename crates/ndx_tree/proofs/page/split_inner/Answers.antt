use Rattle.std.proofs.Common.{◌/◌, ◌≡◌, ◌+◌, length, take, arith, ap, ◌∙◌}
use Rattle.ndx_tree.proofs.Cut.{cut_length, cut_from}
use Rattle.ndx_tree.proofs.Divide.{inner_halves}
use Rattle.ndx_tree.proofs.Keyed.{later_room}
use Rattle.ndx_tree.proofs.page.split_inner.Goals as goal

pub move_tail-requires-2-clause-within : goal.move_tail-requires-2-clause-within
move_tail-requires-2-clause-within c =
    let n : length c.args.children.now.items ≡ length c.args.entries.now.items + 1 =
    cut_length _ _ (cut_from c.args.most _ _ c.requires.parts.framed (omega arith)) in
    omega arith

pub move_tail-requires-2-clause-room : goal.move_tail-requires-2-clause-room
move_tail-requires-2-clause-room c =
    let n : length c.args.children.now.items ≡ length c.args.entries.now.items + 1 =
    cut_length _ _ (cut_from c.args.most _ _ c.requires.parts.framed (omega arith)) in
    omega arith

pub returns-clause-divides : goal.returns-clause-divides
returns-clause-divides c = (inner_halves c.args.most (c.len-kept.result / 2) c.args.entries.now.items
    c.truncate.new.self.items c.move_tail.new.to.items c.args.children.now.items c.move_tail-2.new.from.items
    c.move_tail-2.new.to.items c.get-separator.result c.requires.parts (omega arith) (omega arith) (omega arith)
    (omega arith) (c.truncate.ensures.items ∙ ap (take (c.len-kept.result / 2)) c.move_tail.ensures.kept)
    c.move_tail.ensures.moved c.move_tail-2.ensures.kept c.move_tail-2.ensures.moved
    (c.get-separator.ensures c.get-separator.result)).0

pub invariant_of-page : goal.invariant_of-page
invariant_of-page c =
    let halves = inner_halves c.args.most (c.len-kept.result / 2) c.args.entries.now.items c.truncate.new.self.items
    c.move_tail.new.to.items c.args.children.now.items c.move_tail-2.new.from.items c.move_tail-2.new.to.items
    c.get-separator.result c.requires.parts (omega arith) (omega arith) (omega arith) (omega arith)
    (c.truncate.ensures.items ∙ ap (take (c.len-kept.result / 2)) c.move_tail.ensures.kept)
    c.move_tail.ensures.moved c.move_tail-2.ensures.kept c.move_tail-2.ensures.moved
    (c.get-separator.ensures c.get-separator.result) in
    (halves.1, halves.2, omega arith, omega arith)

pub move_tail-requires-clause-room : goal.move_tail-requires-clause-room
move_tail-requires-clause-room c =
    let k = c.requires.keyed.key_length in (
      k,
      c.requires.keyed.keys,
      later_room c.args.most k _ (c.len-kept.result / 2 + 1) _
          (omega (arith, c.requires.parts.four)) c.requires.keyed.fits (omega arith) c.requires.blank.blank.entry_room,
    )
