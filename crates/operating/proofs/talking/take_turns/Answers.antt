use Rattle.operating.proofs.AnswerLemmas.{on_err, unkept_behind}
use Rattle.operating.proofs.TurnLemmas.{over_is}
use Rattle.operating.proofs.talking.take_turns.Goals as goal

pub returns-in-Over-clause-comes_to : goal.returns-in-Over-clause-comes_to
returns-in-Over-clause-comes_to g c =
    λ store today t. over_is _ store today _ _ c.in_ok-turned.turned c.in-Over.outcome _ c.in-Over.is
    (c.in_ok-turned.ensures.turned store today (c.loop-turned.invariant.talked store today t))

pub returns-in_err-turned-clause-unkept : goal.returns-in_err-turned-clause-unkept
returns-in_err-turned-clause-unkept g c =
    on_err c.from_residual.result _
    (unkept_behind _ _ _ _ _ _ c.loop-turned.invariant.kept c.in_err-turned.ensures.unkept)
