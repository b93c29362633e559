use Rattle.std.proofs.Common.{◌≡◌, true, false}
use Rattle.operating.proofs.PieceLemmas.{step_on, step_over}
use Rattle.operating.proofs.silence.take_step.Goals as goal

pub returns-then-is_last-clause-turned : goal.returns-then-is_last-clause-turned
returns-then-is_last-clause-turned g c = λ store today bytes s.
    let last : c.is_last.result ≡ true = search in
    step_over _ store today bytes _ _ _ _ _ _ c.greater_budgets_change_no_end.ensures c.requires.within
    c.take_part-part.ensures.within (c.is_last.ensures.last last) s (c.take_part-part.ensures.ran s.world s.twin)

pub returns-clause-turned : goal.returns-clause-turned
returns-clause-turned g c = λ store today bytes s.
    let more : c.is_last.result ≡ false = search in
    step_on _ store today bytes _ _ _ _ _ c.parts_make_the_whole.ensures (c.is_last.ensures.spent more) s
    (c.take_part-part.ensures.ran s.world s.twin)
