use Rattle.text_lines.proofs.Joining.{last_byte}
use Rattle.text_lines.proofs.lines.is_ended.Goals as goal

pub returns-in-len1-up : goal.returns-in-len1-up
returns-in-len1-up c = last_byte c.args.bytes.now c.in-len1-up.len_at_least
