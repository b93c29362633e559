use Rattle.std.proofs.Common.{◌≡◌, ap, arith, ℕ, ◌∙◌, sym}
use Rattle.std.specs.Prelude.{replicate}
use Rattle.std.proofs.lemmas.List.{take_all}
use Rattle.screen_lines.specs.Roll.{blank_screen_row, blank_rows}
use Rattle.screen_lines.proofs.rows.blank_out.Goals as goal

pub returns : goal.returns
unfolding blank_rows
returns c =
    let all : c.loop-row.row-index ≡ 25 = omega arith in
    sym (take_all c.loop-row.row-index c.loop-row.rows (omega arith)) ∙ c.loop-row.invariant
    ∙ ap (λ (n : ℕ). replicate n blank_screen_row) all
