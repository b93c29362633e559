use Rattle.prg_expr.specs.Spelling.{read}
use Rattle.prg_expr.proofs.Read.{spelled, only, refused, told}
use Rattle.prg_expr.proofs.reading.expr.Goals as goal

pub returns-clause-spelled : goal.returns-clause-spelled
returns-clause-spelled c = spelled c.args.text.now c.answered.result
    (c.answered.ensures (read c.args.text.now) c.read_all.ensures)

pub returns-clause-only : goal.returns-clause-only
returns-clause-only c = only c.args.text.now c.answered.result
    (c.answered.ensures (read c.args.text.now) c.read_all.ensures)

pub returns-clause-refused : goal.returns-clause-refused
returns-clause-refused c = refused c.args.text.now c.answered.result
    (c.answered.ensures (read c.args.text.now) c.read_all.ensures)

pub returns-clause-told : goal.returns-clause-told
returns-clause-told c = told c.args.text.now c.answered.result
    (c.answered.ensures (read c.args.text.now) c.read_all.ensures)
