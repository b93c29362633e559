use Rattle.std.proofs.Common.{◌+◌, ap, ◌∙◌}
use Rattle.key_lists.specs.Pairs.{Pair}
use Rattle.key_lists.specs.Rising.{first_from}
use Rattle.ndx_tree.proofs.Search.{from_next}
use Rattle.ndx_tree.proofs.tree.NdxTree.after.Goals as goal

pub returns-clause-found : goal.returns-clause-found
returns-clause-found c = let x : Pair = (c.args.key.now, c.args.number) in c.search_from.ensures.found
    ∙ ap (λ n. first_from (c.args.key.now, n + 1) c.args.self.now.pairs) c.from.ensures
    ∙ from_next x c.args.self.now.pairs
