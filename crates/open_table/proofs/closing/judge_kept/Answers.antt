use Rattle.std.proofs.Common.{true, map, ap, ◌∙◌, subst, List}
use Rattle.shape.specs.declared.parts.KeyPart.{KeyPart}
use Rattle.row_keys.specs.Lists.{index_list, kept_rows}
use Rattle.row_moves.specs.Moves.{IsMove, end_of}
use Rattle.open_table.specs.Passes.{at_higher_cost}
use Rattle.open_table.specs.Slots.{mark_of}
use Rattle.open_table.proofs.ClosingLemmas.{by_parts}
use Rattle.open_table.proofs.closing.judge_kept.Goals as goal

pub first_of-requires-clause-key : goal.first_of-requires-clause-key
first_of-requires-clause-key g c =
    c.key_of_order-key.ensures.sound c.args.table.now.structure c.args.table.now.rows c.requires.indexed.exact

pub returns : goal.returns
returns g c = λ shown sees.
    let rows = kept_rows c.args.kept c.args.table.now.rows in
    let marks = map mark_of c.args.slots.now.items in
    let list = ap (λ (parts : List KeyPart). index_list parts rows) c.key_of_order-key.ensures.value
    ∙ by_parts c.puts_in_order.ensures c.args.order marks rows in
    subst (λ ps. IsMove (at_higher_cost c.args.base (end_of shown true ps)) c.args.budget c.first_of.result) list
    (c.first_of.ensures shown sees)
