use Rattle.std.proofs.Common.{◌-◌, length}
use Rattle.prg_expr.specs.Tree.{tree_of}
use Rattle.prg_line.specs.Gives.{at_of}
use Rattle.prg_line.proofs.SeveralLemmas.{read_on, words_behind}
use Rattle.prg_line.proofs.reader.Reader.expression.Goals as goal

pub returns-clause-reads : goal.returns-clause-reads
returns-clause-reads c =
    let ts = c.args.self.now.words.now in
    read_on (at_of c.args.self.now) (tree_of c.in_ok-found.found) _ _ c.in_ok-found.ensures.gives
    (words_behind (length ts - c.in_ok-found.left) ts)
