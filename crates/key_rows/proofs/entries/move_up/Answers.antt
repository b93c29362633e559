use Rattle.key_rows.proofs.MovedBytes.{moved_to_end}
use Rattle.std.proofs.Common.{arith}
use Rattle.key_rows.proofs.entries.move_up.Goals as goal

pub returns-clause-bytes : goal.returns-clause-bytes
returns-clause-bytes c = moved_to_end c.args.bytes.now.items c.copy_within.new.self.items c.args.start c.args.end
    c.args.size c.requires.order (omega (arith, c.requires.behind)) c.copy_within.ensures.items
