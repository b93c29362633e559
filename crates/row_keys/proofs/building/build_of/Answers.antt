use Rattle.std.proofs.Common.{sym, ◌∙◌, subst, arith}
use Rattle.key_lists.specs.KeyForm.{IsKeyText}
use Rattle.key_lists.specs.Order.{IsDistinct}
use Rattle.row_keys.specs.Lists.{kept_rows}
use Rattle.row_keys.proofs.ListLemmas.{IsDistinct-row_pairs, listed_by}
use Rattle.row_keys.proofs.building.build_of.Goals as goal

pub rebuild-requires-clause-distinct : goal.rebuild-requires-clause-distinct
rebuild-requires-clause-distinct g c = subst IsDistinct (sym c.in_ok-entries.ensures.pairs)
    (IsDistinct-row_pairs c.args.key.now 1 (kept_rows c.args.kept c.args.table.now.rows))

pub rebuild-requires-clause-few : goal.rebuild-requires-clause-few
rebuild-requires-clause-few g c = omega (arith, c.in_ok-entries.ensures.few, c.requires.few)

pub returns-clause-exact : goal.returns-clause-exact
returns-clause-exact g c = record {
  sound = record {
    key = c.requires.key;
    length = c.in_ok-list.ensures.key_length ∙ c.length-length.ensures;
    text = subst IsKeyText (sym c.in_ok-list.ensures.key_text) c.requires.key_text;
  };
  pairs = listed_by c.args.key.now (kept_rows c.args.kept c.args.table.now.rows) _ _ c.in_ok-list.ensures.pairs
      c.in_ok-entries.ensures.pairs;
}
