use Rattle.std.proofs.Common.{◌≡◌, sym, subst}
use Rattle.machine.specs.Showing.{shown_next}
use Rattle.machine.specs.Twins.{Twin}
use Rattle.machine.proofs.Shows.{step_shows}
use Rattle.machine.proofs.banks.Banks.next_shown.Goals as goal

pub returns-clause-step : goal.returns-clause-step
returns-clause-step g c = λ w t.
    let same = c.code.ensures.same in
    let place = c.shown_next.ensures w (subst (λ k. Twin k w c.args.self.now) (sym same) t) in
    step_shows c.args.verified.now w c.shown_next.result (subst (λ k. c.shown_next.result ≡ shown_next k w) same place)
