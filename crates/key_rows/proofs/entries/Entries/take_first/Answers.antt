use Rattle.key_rows.proofs.FlatLemmas.{first_out}
use Rattle.key_rows.proofs.entries.Entries.take_first.Goals as goal

pub returns-clause-items : goal.returns-clause-items
returns-clause-items c = first_out c.args.self.now.items c.remove.new.self.items c.get-first.result c.requires
    (c.get-first.ensures c.get-first.result) c.remove.ensures.items
