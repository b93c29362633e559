use Rattle.std.proofs.Common.{ap, ◌∙◌, drop}
use Rattle.text_lines.specs.Lines.{is_out, short_lines}
use Rattle.text_lines.proofs.Joining.{out_where_none, left_where_some}
use Rattle.text_lines.proofs.typed.TypedLines.is_empty.Goals as goal

pub returns-in-empty : goal.returns-in-empty
returns-in-empty c = out_where_none c.split_at.result.1.now c.in-empty.len_below
    ∙ ap (λ r. is_out (short_lines r)) (c.split_at.ensures.back ∙ ap (drop c.self.inside.used) c.as_slice.ensures.value)
    ∙ ap is_out c.self.view_is

pub returns-in-len1-up : goal.returns-in-len1-up
returns-in-len1-up c = left_where_some c.split_at.result.1.now c.in-len1-up.len_at_least
    ∙ ap (λ r. is_out (short_lines r)) (c.split_at.ensures.back ∙ ap (drop c.self.inside.used) c.as_slice.ensures.value)
    ∙ ap is_out c.self.view_is
