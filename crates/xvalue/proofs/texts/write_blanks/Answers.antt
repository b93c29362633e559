use Rattle.std.proofs.Common.{◌∙◌, ap}
use Rattle.xvalue.specs.Texts.{fitting}
use Rattle.xvalue.proofs.TextLemmas.{blanks_fitting}
use Rattle.xvalue.proofs.texts.write_blanks.Goals as goal

pub returns : goal.returns
returns c = c.write.ensures ∙ ap fitting c.front.ensures ∙ blanks_fitting c.args.count
