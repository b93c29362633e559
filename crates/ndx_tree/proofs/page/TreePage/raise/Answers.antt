use Rattle.std.proofs.Common.{◌≡◌, ◌+◌, ◌*◌, ◌≤◌, List, length, subst, sym, ap, arith}
use Rattle.key_lists.specs.Pairs.{Pair}
use Rattle.key_rows.specs.Flat.{FlatView}
use Rattle.ndx_tree.proofs.Keyed.{entries_room, last_keyed, most_is}
use Rattle.ndx_tree.proofs.page.TreePage.raise.Goals as goal

pub put-requires-clause-room : goal.put-requires-clause-room
put-requires-clause-room c =
    let k = c.requires.keyed.key_length in
    let size : length c.args.separator.0 ≡ k =
    last_keyed k c.args.self.now.pairs c.args.separator c.requires.keyed.keys c.requires.separator in
    let most = most_is c.args.self.now c.self.inside.most c.self.inside.entries.items c.self.inside.children.items
    c.self.view_is in
    let four = subst (λ m. 4 ≤ m) most c.self.invariant.0.four in
    let none : length c.args.blank.entries.items ≡ 0 =
    ap (λ (m : List Pair). length m) c.requires.blank.blank.no_entry in
    let room : (length c.args.blank.entries.items + 1) * (length c.args.separator.0 + 4)
    ≤ c.args.blank.entries.room = subst
    (λ j. (length c.args.blank.entries.items + 1) * (j + 4) ≤ c.args.blank.entries.room) (sym size)
    (entries_room c.args.self.now.most k _ _ (omega (arith, four)) c.requires.keyed.fits (omega (arith, none))
    c.requires.blank.blank.entry_room) in
    subst (λ (v : FlatView). (length v.items + 1) * (length c.args.separator.0 + 4) ≤ v.room)
    (sym c.replace.ensures.after) room
