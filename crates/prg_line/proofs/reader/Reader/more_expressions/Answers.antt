use Rattle.std.proofs.Common.{map, List, subst}
use Rattle.std.proofs.lemmas.Result.{err_from_is_err_and}
use Rattle.prg_expr.specs.Tree.{Tree, tree_of}
use Rattle.prg_line.specs.Forms.{expression}
use Rattle.prg_line.specs.Gives.{at_of}
use Rattle.prg_line.proofs.SeveralLemmas.{SoFar, starts, steps, ends, fails, seen_pushed, no_longer, shorter}
use Rattle.prg_line.proofs.reader.Reader.more_expressions.Goals as goal

pub loop-self-init : goal.loop-self-init
loop-self-init c = starts expression (map tree_of c.args.found.items) (at_of c.args.self.now)

pub returns-in_err-next : goal.returns-in_err-next
returns-in_err-next c =
    let p = err_from_is_err_and c.from_residual.result c.from_residual.ensures.1 in
    rw (p.1, p.2)
    (fails expression (map tree_of c.args.found.items) (at_of c.args.self.now) c.in_err-next.field-0.0
    (map tree_of c.loop-self.all.items) (at_of c.loop-self.self) (at_of c.comma.new.self)
    c.loop-self.invariant (c.loop-self-test.ensures.taken) c.in_err-next.ensures.reads)

pub loop-self-preserved : goal.loop-self-preserved
loop-self-preserved c =
    subst (λ (xs : List Tree). SoFar expression (map tree_of c.args.found.items) (at_of c.args.self.now) xs
    (at_of c.expression.new.self))
    (seen_pushed tree_of c.loop-self.all.items c.push.new.self.items c.in_ok-next.next c.in_ok-push.ensures.items)
    (steps expression (map tree_of c.args.found.items) (at_of c.args.self.now) (map tree_of c.loop-self.all.items)
    (at_of c.loop-self.self) (at_of c.comma.new.self) (at_of c.expression.new.self) (tree_of c.in_ok-next.next)
    c.loop-self.invariant c.loop-self-test.ensures.taken c.in_ok-next.ensures.reads
    (no_longer c.comma.new.self.words.now c.loop-self.self.words.now c.loop-self-test.ensures.no_longer)
    (shorter c.expression.new.self.words.now c.comma.new.self.words.now c.in_ok-next.ensures.shorter))

pub returns : goal.returns
returns c =
    ends expression (map tree_of c.args.found.items) (at_of c.args.self.now) (map tree_of c.loop-self.all.items)
    (at_of c.loop-self.self) (at_of c.comma.new.self)
    c.loop-self.invariant (c.loop-self-test.ensures.taken)
