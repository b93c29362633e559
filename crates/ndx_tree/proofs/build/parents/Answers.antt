use Rattle.std.proofs.Common.{◌≡◌, ◌+◌, ◌-◌, ℕ, List, ◌∷◌, length, reverse, drop, subst, sym, ap, ◌∙◌, arith}
use Rattle.std.specs.Vec.{vec_len}
use Rattle.std.proofs.lemmas.List.{length-take, length-drop}
use Rattle.ndx_tree.specs.Pages.{PageView, AreChildren}
use Rattle.ndx_tree.proofs.Divide.{children_take, children_drop}
use Rattle.ndx_tree.proofs.Building.{reverse_more, left_rising, left_keyed, parent_whole, child_above, two_more}
use Rattle.ndx_tree.proofs.build.parents.Goals as goal

pub parent-requires-clause-level : goal.parent-requires-clause-level
parent-requires-clause-level c =
    (c.requires.level.0, c.loop-alloc.invariant.level c.requires.level.0 c.requires.level.1)

pub parent-requires-clause-rising : goal.parent-requires-clause-rising
parent-requires-clause-rising c = left_rising _ _ _ c.loop-alloc.invariant.whole c.requires.rising

pub parent-requires-clause-keyed : goal.parent-requires-clause-keyed
parent-requires-clause-keyed c = left_keyed c.args.most _ _ _ c.loop-alloc.invariant.whole c.requires.keyed

pub loop-alloc-preserved : goal.loop-alloc-preserved
loop-alloc-preserved c =
    let row = c.loop-alloc.row.items in
    let kept : ℕ = vec_len c.loop-alloc.row - c.share-count.result in
    let page = c.in_ok-parent.field-0 in
    let above = c.in_ok-parent.ensures.above in
    let inv = c.loop-alloc.invariant in
    let share = c.share-count.ensures in
    let more : reverse c.push.new.self.items ≡ page ∷ reverse c.loop-alloc.above.items =
    reverse_more c.loop-alloc.above.items c.push.new.self.items page c.in_ok-push.ensures.items in
    let left : length c.parent.new.row.items ≡ length row - c.share-count.result =
    ap (λ (m : List PageView). length m) c.in_ok-parent.ensures.row ∙ length-take kept row ∙ omega arith in
    let number : length (drop kept row) ≡ c.share-count.result = length-drop kept row ∙ omega (arith, share.within) in
    record {
      whole = parent_whole kept row c.parent.new.row.items (reverse c.loop-alloc.above.items)
          (reverse c.push.new.self.items) page _ c.in_ok-parent.ensures.row above.pairs more inv.whole;
      level = λ h q. subst (AreChildren h c.args.most) (sym c.in_ok-parent.ensures.row)
          (children_take h c.args.most kept row (inv.level h q));
      made = λ h q. subst (AreChildren (h + 1) c.args.most) (sym more) (
        child_above h c.args.most (drop kept row) page above (children_drop h c.args.most kept row (inv.level h q))
            c.requires.most.0 (omega (arith, share.least, number)) (omega (arith, share.most, number)),
        inv.made h q,
      );
      enough = λ p. let rest = share.rest (omega (arith, p, left, share.within)) in omega (arith, rest, left);
      none = λ e. absurd (omega (arith, e, c.in_ok-push.ensures.len));
      two = let t = two_more (vec_len c.loop-alloc.above) (vec_len c.loop-alloc.row) (vec_len c.parent.new.row)
          c.share-count.result (c.args.most + 1) inv.none share.most (omega (arith, share.within, left)) in omega
          (arith, t, c.in_ok-push.ensures.len);
      fewer = omega (arith, inv.fewer, left, share.within, share.least, c.requires.most.0, c.in_ok-push.ensures.len);
    }

pub returns-clause-level : goal.returns-clause-level
returns-clause-level c =
    λ h q. subst (AreChildren (h + 1) c.args.most) (sym c.reverse.ensures.items) (c.loop-alloc.invariant.made h q)
