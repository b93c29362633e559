use Rattle.std.proofs.Common.{sym, ap, ◌∙◌}
use Rattle.row_keys.specs.Lists.{row_pairs, kept_rows}
use Rattle.row_keys.proofs.ListLemmas.{nothing_kept}
use Rattle.row_keys.proofs.building.entries_of.Goals as goal

pub returns-in-Nothing-clause-pairs : goal.returns-in-Nothing-clause-pairs
returns-in-Nothing-clause-pairs c =
    c.new.ensures.items
    ∙ sym (ap (row_pairs c.args.key.now 1) (nothing_kept c.args.table.now.rows))
    ∙ ap (λ k. row_pairs c.args.key.now 1 (kept_rows k c.args.table.now.rows)) (sym c.in-Nothing.is)
