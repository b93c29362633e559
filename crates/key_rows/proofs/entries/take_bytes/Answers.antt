use Rattle.std.proofs.Common.{◌≡◌, ◌∙◌, length, arith}
use Rattle.key_rows.proofs.MovedBytes.{moved_down}
use Rattle.key_rows.proofs.entries.take_bytes.Goals as goal

pub returns-clause-bytes : goal.returns-clause-bytes
returns-clause-bytes c =
    let end : c.len-end.result ≡ length c.args.bytes.now.items = omega (arith, c.len-end.ensures) in
    c.truncate.ensures.items ∙ moved_down c.args.bytes.now.items c.copy_within.new.self.items c.args.start c.args.size
    c.len-end.result (omega (arith, c.requires)) end c.copy_within.ensures.items
