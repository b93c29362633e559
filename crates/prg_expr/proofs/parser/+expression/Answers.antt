use Rattle.std.proofs.Common.{◌-◌, arith, ap}
use Rattle.std.proofs.lemmas.Result.{err_from_is_err_and}
use Rattle.prg_expr.specs.Tree.{tree_of}
use Rattle.prg_expr.specs.Word.{words}
use Rattle.prg_expr.specs.Reading as spec
use Rattle.prg_expr.proofs.Turns.{steps, ends, fails, words_length}
use Rattle.std.proofs.Common.{◌≡◌, ◌++◌, ◌∷◌, [], suc, length, sym, subst, ◌∙◌, Bool}
use Rattle.prg_expr.specs.Tree.{Trees, None, More, trees_of}
use Rattle.prg_expr.proofs.Listing as listing
use Rattle.prg_expr.proofs.Equations.{tree_binary}
use Rattle.prg_expr.proofs.parser.+expression.Goals as goal

pub chain-returns-in_err-right-clause-gives : goal.chain-returns-in_err-right-clause-gives
chain-returns-in_err-right-clause-gives t c =
    let p = err_from_is_err_and c.from_residual-in_err-right.result c.from_residual-in_err-right.ensures.1 in
    rw (p.1, p.2) (fails (spec.level_at c.args.depth (c.args.level - 1)) c.args.level
    (words c.args.tokens.now) c.in_err-right.field-0.0 (tree_of c.loop-operator.left)
    (words c.loop-operator.rest.now) (words c.in-Some.after.now) c.in-Some.operator c.loop-operator.invariant.0
    (let h = c.in-Some.ensures.found in cc) c.in_err-right.ensures.gives)

pub chain-loop-operator-preserved : goal.chain-loop-operator-preserved
chain-loop-operator-preserved t c =
    let so = steps (spec.level_at c.args.depth (c.args.level - 1)) c.args.level (words c.args.tokens.now)
    (tree_of c.loop-operator.left) (tree_of c.in_ok-right.right) (words c.loop-operator.rest.now)
    (words c.in-Some.after.now) (words c.in_ok-right.others.now) c.in-Some.operator c.loop-operator.invariant.0
    (let h = c.in-Some.ensures.found in cc) c.in_ok-right.ensures.gives
    (omega (
      arith,
      words_length c.in_ok-right.others.now,
      words_length c.loop-operator.rest.now,
      c.in_ok-right.ensures.shorter,
      c.in-Some.ensures.shorter,
    )) in (
      rw (
        tree_binary c.in-Some.operator c.in_ok-new.field-0 c.in_ok-new-2.field-0,
        c.in_ok-new.ensures.ok,
        c.in_ok-new-2.ensures.ok,
      ) so,
      omega (
        arith,
        c.in_ok-right.ensures.shorter,
        c.in-Some.ensures.shorter,
        c.loop-operator.invariant.1,
      ),
    )

pub chain-returns-clause-gives : goal.chain-returns-clause-gives
chain-returns-clause-gives t c =
    ends (spec.level_at c.args.depth (c.args.level - 1)) c.args.level (words c.args.tokens.now)
    (tree_of c.loop-operator.left) (words c.loop-operator.rest.now) c.loop-operator.invariant.0
    (let h = c.in_default.ensures.found in cc)

pub arguments-returns-in_err-first-clause-gives : goal.arguments-returns-in_err-first-clause-gives
arguments-returns-in_err-first-clause-gives t c =
    let r = spec.inside c.args.depth in
    let ws = words c.args.tokens.now in
    let p = err_from_is_err_and c.from_residual.result c.from_residual.ensures.1 in
    rw (p.1, p.2) (listing.fails r (spec.arguments (suc (length ws)) r ws) None ws c.in_err-first.field-0.0
    (listing.starts r ws) c.in_err-first.ensures.gives)

pub arguments-returns-in_err-goes_on-clause-gives : goal.arguments-returns-in_err-goes_on-clause-gives
arguments-returns-in_err-goes_on-clause-gives t c =
    let r = spec.inside c.args.depth in
    let ws = words c.args.tokens.now in
    let p = err_from_is_err_and c.from_residual-in_err-goes_on.result c.from_residual-in_err-goes_on.ensures.1 in
    rw (p.1, p.2) (listing.unparted r (spec.arguments (suc (length ws)) r ws) None ws c.in_err-goes_on.field-0.0
    (tree_of c.in_ok-first.first) (words c.in_ok-first.after.now)
    (listing.starts r ws) c.in_ok-first.ensures.gives c.in_err-goes_on.ensures.gives)

pub arguments-loop-goes_on-init : goal.arguments-loop-goes_on-init
arguments-loop-goes_on-init t c =
    let r = spec.inside c.args.depth in
    let ws = words c.args.tokens.now in
    let so = listing.steps r (spec.arguments (suc (length ws)) r ws) None ws (tree_of c.in_ok-first.first)
    (words c.in_ok-first.after.now) (words c.in_ok-goes_on.rest.now) c.in_ok-goes_on.goes_on
    (listing.starts r ws) c.in_ok-first.ensures.gives c.in_ok-goes_on.ensures.gives
    (omega (
      arith,
      words_length c.in_ok-goes_on.rest.now,
      words_length c.args.tokens.now,
      c.in_ok-first.ensures.shorter,
      c.in_ok-goes_on.ensures.shorter,
    )) in
    let e : trees_of c.push.new.self.items ≡ listing.join None (More (tree_of c.in_ok-first.first) None) =
    ap trees_of c.in_ok-push.ensures.items ∙ ap
    (λ es. trees_of (es ++ c.in_ok-first.first ∷ [])) c.new-found.ensures.items
    ∙ listing.trees_push [] c.in_ok-first.first in (
      subst (λ (x : Trees). listing.SoFar r (spec.arguments (suc (length ws)) r ws) c.in_ok-goes_on.goes_on x
          (words c.in_ok-goes_on.rest.now)) (sym e) so,
      omega (arith, c.in_ok-first.ensures.shorter, c.in_ok-goes_on.ensures.shorter),
    )

pub arguments-returns-in_err-argument-clause-gives : goal.arguments-returns-in_err-argument-clause-gives
arguments-returns-in_err-argument-clause-gives t c =
    let r = spec.inside c.args.depth in
    let ws = words c.args.tokens.now in
    let p = err_from_is_err_and c.from_residual-in_err-argument.result c.from_residual-in_err-argument.ensures.1 in
    let so = subst (λ (b : Bool). listing.SoFar r (spec.arguments (suc (length ws)) r ws) b
    (trees_of c.loop-goes_on.found.items) (words c.loop-goes_on.rest.now)) c.loop-goes_on-test.true
    c.loop-goes_on.invariant.0 in
    rw (p.1, p.2) (listing.fails r (spec.arguments (suc (length ws)) r ws) (trees_of c.loop-goes_on.found.items)
    (words c.loop-goes_on.rest.now) c.in_err-argument.field-0.0 so c.in_err-argument.ensures.gives)

pub arguments-returns-in_err-more-clause-gives : goal.arguments-returns-in_err-more-clause-gives
arguments-returns-in_err-more-clause-gives t c =
    let r = spec.inside c.args.depth in
    let ws = words c.args.tokens.now in
    let p = err_from_is_err_and c.from_residual-in_err-more.result c.from_residual-in_err-more.ensures.1 in
    let so = subst (λ (b : Bool). listing.SoFar r (spec.arguments (suc (length ws)) r ws) b
    (trees_of c.loop-goes_on.found.items) (words c.loop-goes_on.rest.now)) c.loop-goes_on-test.true
    c.loop-goes_on.invariant.0 in
    rw (p.1, p.2) (listing.unparted r (spec.arguments (suc (length ws)) r ws) (trees_of c.loop-goes_on.found.items)
    (words c.loop-goes_on.rest.now) c.in_err-more.field-0.0 (tree_of c.in_ok-argument.argument)
    (words c.in_ok-argument.after.now) so c.in_ok-argument.ensures.gives c.in_err-more.ensures.gives)

pub arguments-loop-goes_on-preserved : goal.arguments-loop-goes_on-preserved
arguments-loop-goes_on-preserved t c =
    let r = spec.inside c.args.depth in
    let ws = words c.args.tokens.now in
    let so = subst (λ (b : Bool). listing.SoFar r (spec.arguments (suc (length ws)) r ws) b
    (trees_of c.loop-goes_on.found.items) (words c.loop-goes_on.rest.now)) c.loop-goes_on-test.true
    c.loop-goes_on.invariant.0 in
    let next = listing.steps r (spec.arguments (suc (length ws)) r ws) (trees_of c.loop-goes_on.found.items)
    (words c.loop-goes_on.rest.now) (tree_of c.in_ok-argument.argument) (words c.in_ok-argument.after.now)
    (words c.in_ok-more.others.now) c.in_ok-more.more so c.in_ok-argument.ensures.gives c.in_ok-more.ensures.gives
    (omega (
      arith,
      words_length c.in_ok-more.others.now,
      words_length c.loop-goes_on.rest.now,
      c.in_ok-argument.ensures.shorter,
      c.in_ok-more.ensures.shorter,
    )) in
    let e : trees_of c.push-in-loop-goes_on.new.self.items ≡ listing.join (trees_of c.loop-goes_on.found.items)
    (More (tree_of c.in_ok-argument.argument) None) =
    ap trees_of c.in_ok-push-2.ensures.items
    ∙ listing.trees_push c.loop-goes_on.found.items c.in_ok-argument.argument in (
      subst (λ (x : Trees). listing.SoFar r (spec.arguments (suc (length ws)) r ws) c.in_ok-more.more x
          (words c.in_ok-more.others.now)) (sym e) next,
      omega (arith, c.in_ok-argument.ensures.shorter, c.in_ok-more.ensures.shorter, c.loop-goes_on.invariant.1),
    )
