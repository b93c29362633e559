use Rattle.std.proofs.Common.{◌+◌, ◌-◌, ◌<◌, ℕ, length, drop, subst, sym, arith}
use Rattle.std.specs.Vec.{vec_len}
use Rattle.std.proofs.lemmas.List.{length-drop}
use Rattle.std.proofs.lemmas.Result.{IfOk-weaker}
use Rattle.ndx_tree.specs.Rooms.{AreKeyed}
use Rattle.key_lists.specs.Rising.{IsRising}
use Rattle.ndx_tree.proofs.Divide.{children_drop}
use Rattle.ndx_tree.proofs.Building.{root_above}
use Rattle.ndx_tree.proofs.build.+root_above.Goals as goal

pub root_above-requires : goal.root_above-requires
root_above-requires t c =
    let made = c.in_ok-parents.ensures in (
      omega (arith, made.fewer, c.decreases),
      (
        c.requires.most,
        (
          (c.requires.level.0 + 1, made.level c.requires.level.0 c.requires.level.1),
          (
            subst IsRising (sym made.pairs) c.requires.rising,
            (subst (AreKeyed c.args.most) (sym made.pairs) c.requires.keyed, made.two),
          ),
        ),
      ),
    )

pub returns-clause-root : goal.returns-clause-root
returns-clause-root t c =
    let kept : ℕ = vec_len c.args.row - c.len-count.result in
    let number : 1 < length (drop kept c.args.row.items) =
    omega (arith, length-drop kept c.args.row.items, c.len-count.ensures, c.requires.two) in
    IfOk-weaker c.parent.result _ _ (λ page a. root_above c.requires.level.0 c.args.most (drop kept c.args.row.items)
    page a (children_drop c.requires.level.0 c.args.most kept c.args.row.items c.requires.level.1) number)
    c.parent.ensures.above
