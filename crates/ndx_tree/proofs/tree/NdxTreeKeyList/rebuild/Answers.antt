use Rattle.std.proofs.Common.{◌∙◌}
use Rattle.std.proofs.lemmas.Result.{IfOk-weaker}
use Rattle.key_lists.proofs.Filling.{sorted_again}
use Rattle.ndx_tree.proofs.Keyed.{pairs_keyed}
use Rattle.ndx_tree.proofs.tree.NdxTreeKeyList.rebuild.Goals as goal

pub row_of-requires-clause-few : goal.row_of-requires-clause-few
row_of-requires-clause-few c = (sorted_again c.args.key_length c.args.entries.items c.deref.result.now
    (c.deref.ensures.value ∙ c.put_in_order.ensures.pairs) c.requires.keys c.requires.distinct c.requires.few).few

pub row_of-requires-clause-keys : goal.row_of-requires-clause-keys
row_of-requires-clause-keys c = pairs_keyed c.args.key_length c.deref.result.now
    (sorted_again c.args.key_length c.args.entries.items c.deref.result.now
    (c.deref.ensures.value ∙ c.put_in_order.ensures.pairs) c.requires.keys c.requires.distinct c.requires.few).keys

pub of_rising-requires-clause-keys : goal.of_rising-requires-clause-keys
of_rising-requires-clause-keys c = (sorted_again c.args.key_length c.args.entries.items c.in_ok-row.row.items
    (c.in_ok-row.ensures ∙ (c.deref.ensures.value ∙ c.put_in_order.ensures.pairs)) c.requires.keys c.requires.distinct
    c.requires.few).keys

pub of_rising-requires-clause-rising : goal.of_rising-requires-clause-rising
of_rising-requires-clause-rising c =
    (sorted_again c.args.key_length c.args.entries.items c.in_ok-row.row.items
    (c.in_ok-row.ensures ∙ (c.deref.ensures.value ∙ c.put_in_order.ensures.pairs)) c.requires.keys c.requires.distinct
    c.requires.few).rising

pub of_rising-requires-clause-few : goal.of_rising-requires-clause-few
of_rising-requires-clause-few c = (sorted_again c.args.key_length c.args.entries.items c.in_ok-row.row.items
    (c.in_ok-row.ensures ∙ (c.deref.ensures.value ∙ c.put_in_order.ensures.pairs)) c.requires.keys c.requires.distinct
    c.requires.few).few

pub returns-clause-pairs : goal.returns-clause-pairs
returns-clause-pairs c = IfOk-weaker c.of_rising.result _ _
    (λ tree e. e ∙ (c.in_ok-row.ensures ∙ (c.deref.ensures.value ∙ c.put_in_order.ensures.pairs)))
    c.of_rising.ensures.pairs
