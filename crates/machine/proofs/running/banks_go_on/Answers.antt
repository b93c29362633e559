use Rattle.std.proofs.Common.{sym, subst}
use Rattle.machine.specs.Twins.{Begins, Twin}
use Rattle.machine.proofs.Runs.{begun, more_lines}
use Rattle.machine.proofs.running.banks_go_on.Goals as goal

pub returns-clause-begun : goal.returns-clause-begun
returns-clause-begun c = λ w b begins. subst (λ k. Twin k w b) c.code-code.ensures.same
    (begun c.code-code.result.now w b (λ s l t. c.openings_fit.ensures c.code-code.result.now s l t
    c.code-code.ensures.legal c.code-code.ensures.accepted)
    (subst (λ k. Begins k w b) (sym c.code-code.ensures.same) begins))

pub returns-clause-more : goal.returns-clause-more
returns-clause-more c = λ w b lines t out. more_lines c.args.verified.now w b lines t out
