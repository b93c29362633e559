use Rattle.std.proofs.Common.{◌∙◌, ap, ◌∷◌, ◌-◌, take, drop, length, List, ℕ, sym}
use Rattle.text_lines.specs.Lines as spec
use Rattle.text_lines.proofs.LineLemmas.{first-of-one, first-of-two}
use Rattle.text_lines.proofs.lines.first_line.Goals as goal

pub returns-in-empty-clause-first : goal.returns-in-empty-clause-first
returns-in-empty-clause-first c =
    first-of-one c.args.bytes.now c.split_at.result.0.now c.split_at.result.1.now c.requires
    (c.split_at.ensures.front ∙ ap (λ (n : ℕ). take n c.args.bytes.now) c.line_length.ensures.value)
    (c.split_at.ensures.back ∙ ap (λ (n : ℕ). drop n c.args.bytes.now) c.line_length.ensures.value)
    c.in-empty.len_below

pub returns-in-len1-up-clause-first : goal.returns-in-len1-up-clause-first
returns-in-len1-up-clause-first c =
    let rest = c.split_at.result.1.now in
    first-of-two c.args.bytes.now c.split_at.result.0.now rest
    (c.split_at.ensures.front ∙ ap (λ (n : ℕ). take n c.args.bytes.now) c.line_length.ensures.value)
    (c.split_at.ensures.back ∙ ap (λ (n : ℕ). drop n c.args.bytes.now) c.line_length.ensures.value)
    c.in-len1-up.len_at_least
    ∙ ap (λ (l : List ℕ). l ∷ spec.lines (take (length rest - 1) (drop 1 rest))) (sym c.without_return.ensures)
