use Rattle.std.proofs.Common.{length, sym, ap, ◌∙◌}
use Rattle.key_rows.specs.Flat.{FlatView}
use Rattle.key_rows.proofs.FlatLemmas.{length-pairs_in}
use Rattle.key_rows.proofs.entries.Entries.len.Goals as goal

pub returns : goal.returns
returns c = sym (length-pairs_in c.self.inside.key_length c.self.inside.count c.self.inside.bytes.items)
    ∙ ap (λ (v : FlatView). length v.items) c.self.view_is
