use Rattle.std.proofs.Common.{◌≡◌, ap, arith, ◌/◌, List, length}
use Rattle.ndx_tree.specs.Pages.{PageView}
use Rattle.ndx_tree.proofs.Divide.{leaf_halves}
use Rattle.ndx_tree.proofs.Keyed.{later_room}
use Rattle.ndx_tree.proofs.page.split_leaf.Goals as goal

pub returns-clause-divides : goal.returns-clause-divides
returns-clause-divides c = (leaf_halves c.args.most _ c.args.entries.now.items c.move_tail.new.self.items
    c.move_tail.new.to.items c.args.blank.children.items c.get-separator.result c.requires.parts (omega arith)
    (omega arith) (omega arith) c.move_tail.ensures.kept c.move_tail.ensures.moved c.requires.blank.no_child
    (c.get-separator.ensures c.get-separator.result)).0

pub invariant_of-page : goal.invariant_of-page
invariant_of-page c =
    let halves = leaf_halves c.args.most _ c.args.entries.now.items c.move_tail.new.self.items c.move_tail.new.to.items
    c.args.blank.children.items c.get-separator.result c.requires.parts (omega arith) (omega arith) (omega arith)
    c.move_tail.ensures.kept c.move_tail.ensures.moved c.requires.blank.no_child
    (c.get-separator.ensures c.get-separator.result) in (
      halves.1,
      halves.2,
      omega arith,
      λ p. let none : length c.args.blank.children.items
          ≡ 0 = ap (λ (m : List PageView). length m) c.requires.blank.no_child in absurd (omega arith),
    )

pub move_tail-requires-clause-room : goal.move_tail-requires-clause-room
move_tail-requires-clause-room c =
    let k = c.requires.keyed.key_length in (
      k,
      c.requires.keyed.keys,
      later_room c.args.most k _ (c.len-kept.result / 2) _
          (omega (arith, c.requires.parts.four)) c.requires.keyed.fits (omega arith) c.requires.blank.entry_room,
    )
