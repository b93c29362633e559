use Rattle.std.proofs.Common.{◌≡◌, ◌+◌, ◌≤◌, length, min, arith}
use Rattle.screen_lines.proofs.Keeping.{Keeps-show, roll-show}
use Rattle.screen_lines.proofs.display.Display.show.Goals as goal

pub returns-clause-kept : goal.returns-clause-kept
returns-clause-kept c =
    let s = c.args.self.now in
    let within : c.min-end.result ≤ 80 = omega arith in
    rw c.show_in_row.ensures
    (Keeps-show s.sent.items s.rows.items s.cursor c.args.row c.args.column c.min-end.result c.args.text.now
    c.index_mut.result.now c.requires.kept c.requires.row (omega arith) within c.index_mut.ensures.value)

pub returns-clause-roll : goal.returns-clause-roll
returns-clause-roll c =
    let s = c.args.self.now in
    let behind : c.min-end.result ≡ min (c.args.column + length c.args.text.now) 80 = omega arith in
    rw c.show_in_row.ensures
    (roll-show s.sent.items s.rows.items s.cursor c.args.row c.args.column c.min-end.result c.args.text.now
    c.index_mut.result.now c.requires.kept.count c.requires.row c.index_mut.ensures.value behind)
