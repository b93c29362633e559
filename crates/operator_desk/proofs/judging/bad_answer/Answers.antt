use Rattle.std.proofs.Common.{◌∙◌, ap, take}
use Rattle.std.specs.Prelude.{is_some}
use Rattle.operator_desk.specs.Asked.{leaves_old}
use Rattle.operator_desk.proofs.ToldAnswers.{told_if_wanted}
use Rattle.operator_desk.proofs.judging.bad_answer.Goals as goal

pub returns-clause-run : goal.returns-clause-run
returns-clause-run c =
    told_if_wanted c.args.kind (is_some c.told_of.result) (take 254 c.args.line.now)
    (c.told_of.ensures.told ∙ ap (leaves_old c.args.kind) c.front.ensures)
