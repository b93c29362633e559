use Rattle.std.proofs.Common.{arith, take, length, length-take, ◌<◌, ◌+◌}
use Rattle.screen_lines.specs.Roll.{shown_byte}
use Rattle.screen_lines.proofs.Showing.{shown_step, shown_end}
use Rattle.screen_lines.proofs.rows.show_in_row.Goals as goal

pub loop-offset-preserved : goal.loop-offset-preserved
loop-offset-preserved c =
    let inside : c.args.column + c.loop-offset.offset < length c.args.row.now =
    omega (arith, length-take c.min-cut.result c.args.text.now) in
    shown_step shown_byte c.args.row.now (take c.min-cut.result c.args.text.now) c.loop-offset.row c.args.column
    c.loop-offset.offset c.shown_byte.result c.loop-offset.invariant c.shown_byte.ensures c.loop-offset-test.true
    inside

pub returns : goal.returns
returns c =
    shown_end shown_byte c.args.row.now c.args.text.now c.loop-offset.row c.args.column c.min-cut.result
    c.loop-offset.offset c.loop-offset.invariant c.min-cut.ensures c.loop-offset.auto.offset-end
    c.loop-offset-test.false c.requires.wide c.requires.inside
