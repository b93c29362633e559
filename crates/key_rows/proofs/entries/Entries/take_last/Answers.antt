use Rattle.std.proofs.Common.{◌-◌, arith}
use Rattle.key_rows.proofs.FlatLemmas.{last_apart}
use Rattle.key_rows.proofs.entries.Entries.take_last.Goals as goal

pub returns-clause-items : goal.returns-clause-items
returns-clause-items c = last_apart c.args.self.now.items c.truncate.new.self.items c.get-last.result
    (c.len-end.result - 1) (omega (arith, c.len-end.ensures, c.requires)) (c.get-last.ensures c.get-last.result)
    c.truncate.ensures.items
