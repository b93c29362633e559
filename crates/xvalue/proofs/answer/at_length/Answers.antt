use Rattle.std.proofs.Common.{◌∙◌, ap, ◌++◌}
use Rattle.xvalue.specs.Texts.{fitting}
use Rattle.xvalue.proofs.AnswerLemmas.{at_length-fits}
use Rattle.xvalue.proofs.answer.at_length.Goals as goal

pub returns : goal.returns
returns c =
    c.write_joined.ensures
    ∙ ap (λ t. fitting (t ++ c.as_slice.result.now)) c.front.ensures
    ∙ at_length-fits c.args.size c.saturating_sub.result c.args.bytes.now c.as_slice.result.now c.requires
    c.saturating_sub.ensures (c.as_slice.ensures.value ∙ c.write_blanks.ensures)
