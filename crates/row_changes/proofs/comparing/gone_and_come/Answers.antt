use Rattle.row_changes.specs.Turns.{texts}
use Rattle.row_changes.proofs.Parts.{all_counted}
use Rattle.row_changes.proofs.comparing.gone_and_come.Goals as goal

pub returns : goal.returns
returns c =
    all_counted (texts c.args.before.now) (texts c.args.after.now) (texts c.loop-next.rest.before.now)
    (texts c.loop-next.rest.after.now) c.loop-next.rest.goes c.loop-next.rest.comes c.loop-next.invariant.0
    c.in_default.ensures.none.0 c.in_default.ensures.none.1
