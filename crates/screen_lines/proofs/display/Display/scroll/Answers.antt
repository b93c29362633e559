use Rattle.screen_lines.proofs.Keeping.{Keeps-scroll, roll-scroll}
use Rattle.screen_lines.proofs.display.Display.scroll.Goals as goal

pub returns-clause-kept : goal.returns-clause-kept
returns-clause-kept c =
    let s = c.args.self.now in
    Keeps-scroll s.sent.items c.send_row.new.sent.items s.rows.items c.rotate_left.new.self.items s.cursor
    c.index.result.now c.blank_row.result c.requires.kept c.send_row.ensures.items c.rotate_left.ensures.items
    c.index.ensures c.blank_row.ensures

pub returns-clause-roll : goal.returns-clause-roll
returns-clause-roll c =
    let s = c.args.self.now in
    roll-scroll s.sent.items c.send_row.new.sent.items s.rows.items c.rotate_left.new.self.items s.cursor
    c.index.result.now c.blank_row.result c.requires.kept c.send_row.ensures.items c.rotate_left.ensures.items
    c.index.ensures c.blank_row.ensures
