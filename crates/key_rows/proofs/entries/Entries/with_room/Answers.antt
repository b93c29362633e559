use Rattle.key_rows.proofs.FlatLemmas.{no_pairs}
use Rattle.key_rows.proofs.entries.Entries.with_room.Goals as goal

pub returns-clause-items : goal.returns-clause-items
returns-clause-items c = no_pairs 0 c.in_ok-with_capacity.field-0.items
