use Rattle.std.proofs.Common.{◌≡◌, ◌-◌, ◌+◌, ◌∷◌, length, take, drop, reverse, subst, sym, arith}
use Rattle.std.specs.Vec.{vec_len}
use Rattle.ndx_tree.specs.Pages.{AreChildren, pairs_of_pages}
use Rattle.ndx_tree.proofs.Building.{piece_of, part_length, leaf_child, leaf_whole, reverse_more, two_more, all_whole}
use Rattle.ndx_tree.proofs.Building.{none_made}
use Rattle.ndx_tree.proofs.build.leaves.Goals as goal

pub loop-left-init : goal.loop-left-init
loop-left-init c =
    let n : c.len-left.result ≡ length c.args.entries.now.items = c.len-left.ensures in
    record {
      whole = all_whole c.args.entries.now.items c.len-left.result c.new-row.result.items n c.new-row.ensures.items;
      within = omega (arith, n);
      level = none_made c.args.most c.new-row.result.items c.new-row.ensures.items;
      enough = λ p. omega (arith, n, c.requires.more);
      none = λ e. omega (arith, n, c.requires.more);
      two = omega (arith, n, c.requires.more, c.requires.most.0);
    }

pub loop-left-preserved : goal.loop-left-preserved
loop-left-preserved c =
    let inv = c.loop-left.invariant in
    let share = c.share-count.ensures in
    let l = c.args.entries.now.items in
    let left = c.loop-left.left in
    let count = c.share-count.result in
    let less = left - count in
    let sum : less + count ≡ left = omega (arith, share.within) in
    let piece = piece_of c.args.most l (pairs_of_pages (reverse c.loop-left.row.items)) left count less sum inv.whole
    c.requires.rising c.requires.keyed in
    let page = c.in_ok-leaf_with.field-0 in
    let size : length (take count (drop less l)) ≡ count = part_length less count l (omega (arith, inv.within, sum)) in
    let more : reverse c.push.new.self.items ≡ page ∷ reverse c.loop-left.row.items =
    reverse_more c.loop-left.row.items c.push.new.self.items page c.in_ok-push.ensures.items in
    record {
      whole = leaf_whole c.args.most (take less l) (take count (drop less l)) l (reverse c.loop-left.row.items)
          (reverse c.push.new.self.items) page c.in_ok-leaf_with.ensures more piece.whole;
      within = omega (arith, inv.within, sum);
      level = subst (AreChildren 1 c.args.most) (sym more) (
        leaf_child c.args.most (take count (drop less l)) page c.in_ok-leaf_with.ensures c.requires.most.0
            (omega (arith, share.least, size)) (omega (arith, share.most, size)),
        inv.level,
      );
      enough = λ p. let rest = share.rest (omega (arith, p, sum)) in omega (arith, rest, sum);
      none = λ e. absurd (omega (arith, e, c.in_ok-push.ensures.len));
      two = let t = two_more (vec_len c.loop-left.row) left less count c.args.most inv.none share.most sum in omega
          (arith, t, c.in_ok-push.ensures.len);
    }
