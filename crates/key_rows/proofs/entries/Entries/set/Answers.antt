use Rattle.std.proofs.Common.{◌∙◌, ap, List}
use Rattle.std.specs.List.{insert}
use Rattle.key_lists.specs.Pairs.{Pair}
use Rattle.key_rows.proofs.FlatLemmas.{put_again}
use Rattle.key_rows.proofs.entries.Entries.set.Goals as goal

pub returns-clause-items : goal.returns-clause-items
returns-clause-items c = c.put.ensures.items ∙ ap (λ (m : List Pair). insert m c.args.at c.args.entry.now)
    c.remove.ensures.items ∙ put_again c.args.self.now.items c.args.at c.args.entry.now c.requires.within
