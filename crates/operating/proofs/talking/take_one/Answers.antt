use Rattle.std.proofs.Common.{refl}
use Rattle.operating.proofs.AnswerLemmas.{on_err, unkept_answer, unkept_none}
use Rattle.operating.proofs.talking.take_one.Goals as goal

pub returns-in_err-line-clause-unkept : goal.returns-in_err-line-clause-unkept
returns-in_err-line-clause-unkept g c =
    on_err c.from_residual.result _ (unkept_none _ _ _ _ c.in_err-line.ensures.failed refl)

pub returns-then-bytes-room-clause-unkept : goal.returns-then-bytes-room-clause-unkept
returns-then-bytes-room-clause-unkept g c = unkept_answer _ _ _ _ _ c.in_ok-line.ensures.answer refl

pub returns-in-Err-Journal-clause-unkept : goal.returns-in-Err-Journal-clause-unkept
returns-in-Err-Journal-clause-unkept g c =
    unkept_answer _ _ _ _ _ c.in_ok-line.ensures.answer c.in-Err-Journal.ensures.kept

pub returns-in-Err-Memory-clause-unkept : goal.returns-in-Err-Memory-clause-unkept
returns-in-Err-Memory-clause-unkept g c =
    unkept_answer _ _ _ _ _ c.in_ok-line.ensures.answer c.in-Err-Memory.ensures.kept
