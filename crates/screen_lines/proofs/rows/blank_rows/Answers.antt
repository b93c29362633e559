use Rattle.std.proofs.Common.{◌≡◌, ap, arith, ℕ, ◌∙◌}
use Rattle.std.specs.Prelude.{replicate}
use Rattle.screen_lines.specs.Roll.{blank_screen_row, blank_rows}
use Rattle.screen_lines.proofs.rows.blank_rows.Goals as goal

pub returns : goal.returns
unfolding blank_rows
returns c =
    let all : c.loop.counter ≡ 25 = omega arith in
    c.loop.invariant ∙ ap (λ (n : ℕ). replicate n blank_screen_row) all
