use Rattle.std.proofs.Common.{◌∙◌, ap, ◌++◌}
use Rattle.xvalue.specs.Texts.{fitting}
use Rattle.xvalue.proofs.texts.write.Goals as goal

pub returns : goal.returns
returns c = c.append.ensures ∙ ap (λ t. fitting (t ++ c.args.bytes.now)) c.clear.ensures
