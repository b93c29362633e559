use Rattle.std.proofs.Common.{◌≡◌, length, ap, ◌∙◌, arith}
use Rattle.std.proofs.lemmas.List.Edits.{insert_end}
use Rattle.std.specs.List.{insert}
use Rattle.key_rows.proofs.entries.Entries.push.Goals as goal

pub returns-clause-items : goal.returns-clause-items
returns-clause-items c =
    let end : c.len-end.result ≡ length c.args.self.now.items = omega arith in
    c.put.ensures.items ∙ ap (λ n. insert c.args.self.now.items n c.args.entry.now) end
    ∙ insert_end c.args.self.now.items c.args.entry.now
