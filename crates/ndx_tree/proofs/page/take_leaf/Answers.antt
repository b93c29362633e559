use Rattle.std.proofs.Common.{subst}
use Rattle.key_lists.specs.Order.{Each}
use Rattle.ndx_tree.specs.Blanks.{IsBlank}
use Rattle.ndx_tree.proofs.BlankLemmas.{each_last}
use Rattle.ndx_tree.proofs.page.take_leaf.Goals as goal

pub returns-clause-blank : goal.returns-clause-blank
returns-clause-blank c =
    (each_last (IsBlank c.args.most) _ _
    (subst (Each (IsBlank c.args.most)) c.in-Some.ensures.items c.requires.pool.leaves)).1

pub returns-clause-pool : goal.returns-clause-pool
returns-clause-pool c =
    record {
      leaves =
          (each_last (IsBlank c.args.most) _ _
          (subst (Each (IsBlank c.args.most)) c.in-Some.ensures.items c.requires.pool.leaves)).0;
      inner =
          c.requires.pool.inner;
    }
