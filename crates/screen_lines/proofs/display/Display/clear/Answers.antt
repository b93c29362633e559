use Rattle.std.proofs.Common.{arith}
use Rattle.screen_lines.proofs.Keeping.{Keeps-clear, roll-clear, seen_blank}
use Rattle.screen_lines.proofs.display.Display.clear.Goals as goal

pub returns-clause-kept : goal.returns-clause-kept
returns-clause-kept c =
    let s = c.args.self.now in
    let blank = seen_blank s.rows.len s.rows.items c.blank_out.new.rows c.blank_out.ensures c.requires.kept.count
    (omega arith) in
    let sends = rw c.as_slice-rows.ensures.value at c.send_rows.ensures.items in
    Keeps-clear s.sent.items c.send_rows.new.sent.items s.rows.items _ s.cursor c.used_rows.result c.requires.kept sends
    blank

pub returns-clause-roll : goal.returns-clause-roll
returns-clause-roll c =
    let s = c.args.self.now in
    let blank = seen_blank s.rows.len s.rows.items c.blank_out.new.rows c.blank_out.ensures c.requires.kept.count
    (omega arith) in
    let sends = rw c.as_slice-rows.ensures.value at c.send_rows.ensures.items in
    let used = rw c.as_slice-rows.ensures.value at c.used_rows.ensures in
    roll-clear s.sent.items c.send_rows.new.sent.items s.rows.items _ s.cursor c.used_rows.result c.requires.kept sends
    blank used
