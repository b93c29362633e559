use Rattle.prg_expr.specs.Tree.{tree_of}
use Rattle.prg_expr.specs.Word.{words}
use Rattle.prg_expr.proofs.Front.{stands, only}
use Rattle.prg_expr.proofs.Longest.{longest}
use Rattle.prg_expr.proofs.parser.expression.Goals as goal

pub returns-clause-stands : goal.returns-clause-stands
returns-clause-stands c = stands (λ x. (tree_of x.0, words x.1.now))
    (words c.args.tokens.now) c.loosest.result c.loosest.ensures.gives

pub returns-clause-only : goal.returns-clause-only
returns-clause-only c = only (λ x. (tree_of x.0, words x.1.now))
    (words c.args.tokens.now) c.loosest.result c.loosest.ensures.gives

pub returns-clause-longest : goal.returns-clause-longest
returns-clause-longest c = longest (λ x. (tree_of x.0, words x.1.now))
    (words c.args.tokens.now) c.loosest.result c.loosest.ensures.gives
