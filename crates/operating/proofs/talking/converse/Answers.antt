use Rattle.std.proofs.Common.{inl, refl}
use Rattle.std.proofs.lemmas.Result.{err_from_is_err_and}
use Rattle.operating.proofs.AnswerLemmas.{failed_before, journal_unfailed, kept_all, kept_behind, kept_none}
use Rattle.operating.proofs.AnswerLemmas.{kept_untold, on_err, unkept_none}
use Rattle.operating.proofs.talking.converse.Goals as goal

pub returns-in_err-marks-clause-unkept : goal.returns-in_err-marks-clause-unkept
returns-in_err-marks-clause-unkept g c =
    on_err c.from_residual.result _ (unkept_none _ _ _ _ c.begin.ensures.untold refl)

pub returns-in_err-banks-clause-unkept : goal.returns-in_err-banks-clause-unkept
returns-in_err-banks-clause-unkept g c =
    on_err c.from_residual-in_err-banks.result _ (unkept_none _ _ _ _ c.begin.ensures.untold refl)

pub returns-in_err-close-clause-unkept : goal.returns-in_err-close-clause-unkept
returns-in_err-close-clause-unkept g c = on_err c.from_residual-in_err-close.result _
    (kept_all _ _ _ _ (kept_untold _ _ _ _ _
    (kept_behind _ _ _ _ _ _ (kept_none _ _ _ _ c.begin.ensures.untold refl) c.in_ok-outcome.ensures.kept)
    c.close.ensures.untold))

pub returns-in_err-outcome-clause-broke : goal.returns-in_err-outcome-clause-broke
returns-in_err-outcome-clause-broke g c =
    let r = c.from_residual-in_err-outcome in
    let p = err_from_is_err_and r.result r.ensures.1 in
    rw (p.1, p.2) c.in_err-outcome.ensures.broke

pub returns-in_err-outcome-clause-cause : goal.returns-in_err-outcome-clause-cause
returns-in_err-outcome-clause-cause g c =
    let r = c.from_residual-in_err-outcome in
    let p = err_from_is_err_and r.result r.ensures.1 in
    rw (p.1, p.2) (failed_before _ _ _ _ c.in_ok-marks.ensures.cause c.in_err-outcome.ensures.cause)

pub returns-in_err-close-clause-broke : goal.returns-in_err-close-clause-broke
returns-in_err-close-clause-broke g c =
    let r = c.from_residual-in_err-close in
    let p = err_from_is_err_and r.result r.ensures.1 in
    rw (p.1, p.2, c.in_ok-outcome.ensures.unfailed) (journal_unfailed _ _ _ c.in_err-close.ensures.cause)

pub returns-in_err-close-clause-cause : goal.returns-in_err-close-clause-cause
returns-in_err-close-clause-cause g c =
    let r = c.from_residual-in_err-close in
    let p = err_from_is_err_and r.result r.ensures.1 in
    rw (p.1, p.2) (inl c.in_err-close.ensures.cause)
